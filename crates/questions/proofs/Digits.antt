-- Bytes in hexadecimal, one step of the loop.
use Rattle.std.proofs.Common.{◌≡◌, ℕ, List, [], ◌∷◌, ◌++◌, Some, None, Option, refl, ap, ◌∙◌, append_assoc}
use Rattle.questions.specs.Hex.{digit, pair, pair_byte, before, pairs}

-- bytes before others
abbrev pub onto : List ℕ → Option (List ℕ) → Option (List ℕ)
onto xs None = None
onto xs (Some ys) = Some (xs ++ ys)

onto_before : (xs : List ℕ) (b : ℕ) (rest : Option (List ℕ)) → onto (xs ++ b ∷ []) rest ≡ onto xs (before (Some b) rest)
onto_before xs b None = refl
onto_before xs b (Some ys) = ap (λ (l : List ℕ). Some l) (append_assoc xs (b ∷ []) ys)

-- the first chunk of two digits is a byte before the others
pub pairs_first : (chunk left all : List ℕ) (b : ℕ) → all ≡ chunk ++ left → Some b ≡ pair_byte chunk → pairs all ≡ before (Some b) (pairs left)
pairs_first [] left all b cut e = cc
pairs_first (h ∷ []) left all b cut e = cc
pairs_first (h ∷ l ∷ []) left all b cut e = ap pairs cut ∙ (let here : pair (digit h) (digit l) ≡ Some b = cc in ap (λ o. before o (pairs left)) here)
pairs_first (h ∷ l ∷ x ∷ rest) left all b cut e = cc

pub pairs_again : (xs ys chunk left left' all : List ℕ) (b : ℕ) → left ≡ chunk ++ left' → Some b ≡ pair_byte chunk → ys ≡ xs ++ b ∷ [] → onto xs (pairs left) ≡ pairs all → onto ys (pairs left') ≡ pairs all
pairs_again xs ys chunk left left' all b cut e pushed inv =
    ap (λ l. onto l (pairs left')) pushed ∙
    onto_before xs b (pairs left') ∙
    ap (onto xs) (let first = pairs_first chunk left' left b cut e in cc) ∙
    inv
