-- Places of bytes, and the lines that they cut.
use Rattle.std.proofs.Common.{◌≡◌, ℕ, suc, ◌+◌, ◌<◌, ◌≤◌, true, false, cond, eqb, ltb, List, [], ◌∷◌, length, take, drop, Some, None, Option, Bor, ⊎_elim, MatchOption, sym, refl, ap, ◌∙◌, arith}
use Rattle.std.specs.List.{position, position_or_len}
use Rattle.std.specs.Option.{unwrap_or}
use Rattle.std.proofs.lemmas.Bool.Decides.{leb_tells}
use Rattle.std.proofs.lemmas.List.{take_all, drop_all}
use Rattle.std.proofs.lemmas.List.Recursion.{is_position_or_len}
use Rattle.questions.specs.Lines.{before_first_line, lines}
use Rattle.questions.specs.Places.{place_of}

place_is : (w : ℕ) (xs : List ℕ) → place_of w xs ≡ position_or_len (λ b. eqb b w) xs
place_is w xs = is_position_or_len (place_of w) (λ b. eqb b w) refl (λ x ys. let e : suc (place_of w ys) ≡ 1 + place_of w ys = omega arith in ap (λ n. cond (eqb x w) 0 n) e) xs

place_within : (w : ℕ) (xs : List ℕ) → place_of w xs ≤ length xs
place_within w [] = omega arith
place_within w (b ∷ bs) =
    let later = place_within w bs in
    elim (eqb b w) as (λ t. cond t 0 (suc (place_of w bs)) ≤ length (b ∷ bs)) [ true ↦ omega arith | false ↦ omega (arith, later) ]

-- the position that std's `position` gives is the place
pub place_cases : (w : ℕ) (xs : List ℕ) → MatchOption (position (λ b. eqb b w) xs) (place_of w xs ≡ length xs) (λ i. (i ≡ place_of w xs) × (place_of w xs < length xs))
place_cases w xs = found (place_of w xs) (position_or_len (λ b. eqb b w) xs) (length xs) (place_is w xs) (place_within w xs)
  where
    found : (p q n : ℕ) → p ≡ q → p ≤ n → MatchOption (cond (ltb q n) (Some q) None) (p ≡ n) (λ i. (i ≡ p) × (p < n))
    found p q n e h =
        ⊎_elim (λ less. rw less.0 (sym e, omega (arith, less.1))) (λ past. rw past.0 (omega (arith, past.1))) (leb_tells (suc q) n)

later_lines : (p b : ℕ) (bs l : List ℕ) → l ∷ lines (drop (p + 1) bs) ≡ l ∷ lines (drop (suc p + 1) (b ∷ bs))
later_lines p b bs l = let next : suc (p + 1) ≡ suc p + 1 = omega arith in ap (λ n. l ∷ lines (drop n (b ∷ bs))) next

-- a byte goes before the first line
lines_left : (bs : List ℕ) (b : ℕ) → before_first_line b (lines bs) ≡ (b ∷ take (place_of 10 bs) bs) ∷ lines (drop (place_of 10 bs + 1) bs)
lines_left [] b = refl
lines_left (c ∷ cs) b =
    let later = lines_left cs in
    elim (eqb c 10) as (λ t. before_first_line b (cond t ([] ∷ lines cs) (before_first_line c (lines cs))) ≡ (b ∷ take (cond t 0 (suc (place_of 10 cs))) (c ∷ cs)) ∷ lines (drop (cond t 0 (suc (place_of 10 cs)) + 1) (c ∷ cs)))
    [ true ↦ refl | false ↦ ap (before_first_line b) (later c) ∙ later_lines (place_of 10 cs) c cs (b ∷ c ∷ take (place_of 10 cs) cs) ]

-- the first line, and then the others
pub lines_first : (xs : List ℕ) → 0 < length xs → lines xs ≡ take (place_of 10 xs) xs ∷ lines (drop (place_of 10 xs + 1) xs)
lines_first [] h = absurd (omega arith)
lines_first (b ∷ bs) h =
    let later = lines_left bs in
    elim (eqb b 10) as (λ t. cond t ([] ∷ lines bs) (before_first_line b (lines bs)) ≡ take (cond t 0 (suc (place_of 10 bs))) (b ∷ bs) ∷ lines (drop (cond t 0 (suc (place_of 10 bs)) + 1) (b ∷ bs)))
    [ true ↦ refl | false ↦ later b ∙ later_lines (place_of 10 bs) b bs (b ∷ take (place_of 10 bs) bs) ]

-- the line that splitting gives, or all that is left, before the other lines
pub lines_split : (text : List ℕ) (r : Option (Bor (List ℕ) × Bor (List ℕ))) (d x : Bor (List ℕ) × Bor (List ℕ)) →
    MatchOption r (place_of 10 text ≡ length text) (λ p. (place_of 10 text < length text) × (p.0.now ≡ take (place_of 10 text) text) × (p.1.now ≡ drop (place_of 10 text + 1) text)) →
    0 < length text → d.0.now ≡ text → d.1.now ≡ [] → x ≡ unwrap_or r d → lines text ≡ x.0.now ∷ lines x.1.now
lines_split text None d x none some front back e =
    let first = lines_first text some in
    let whole : take (place_of 10 text) text ≡ text = take_all (place_of 10 text) text (omega (arith, none)) in
    let empty : drop (place_of 10 text + 1) text ≡ [] = drop_all (place_of 10 text + 1) text (omega (arith, none)) in
    let line : x.0.now ≡ text = ap (λ p. p.0.now) e ∙ front in
    let rest : x.1.now ≡ [] = ap (λ p. p.1.now) e ∙ back in
    cc
lines_split text (Some p) d x parts some front back e =
    let first = lines_first text some in
    let line : x.0.now ≡ take (place_of 10 text) text = ap (λ p. p.0.now) e ∙ parts.1 in
    let rest : x.1.now ≡ drop (place_of 10 text + 1) text = ap (λ p. p.1.now) e ∙ parts.2 in
    cc
