-- What columns hold once they are cut to what was written.
use Rattle.std.proofs.Common.{◌≡◌, ℕ, ◌+◌, List, ◌++◌, length, take, drop, Ok, sym, ap, ◌∙◌, subst, arith}
use Rattle.std.proofs.lemmas.List.{take_at}
use Rattle.converter.specs.Lexes.{Lexes, Keeps, Readable}
use Rattle.converter.specs.Meaning.{Meaning}
use Rattle.converter.specs.declared.lexing.Counts.{Counts}
use Rattle.lexed_str.specs.Columns.{tokens}
use Rattle.lexed_str.specs.declared.error.LexError.{LexError}
use Rattle.owned_columns.specs.Holds.{Holds}

-- what was lent of a vector of n items, put back and cut at k
pub cut_back : {X : Type 0} (xs before now : List X) (n k : ℕ) → length xs ≡ n → now ≡ take k (take n (xs ++ drop (length xs) before)) → now ≡ take k xs
cut_back xs before now n k long cut = cut ∙ ap (take k) (take_at xs (drop (length xs) before) n long)

pub holds : (m : Meaning) (edition : ℕ) (c : Counts) (ks ss ks' ss' : List ℕ) (es es' : List LexError) →
    ks' ≡ take (c.tokens + 1) ks → ss' ≡ take (c.tokens + 1) ss → es' ≡ take c.errors es →
    Keeps m edition (Ok c) ks ss es → Readable m (Ok c) ks ss es → Holds m edition ks' ss' es'
holds m edition c ks ss ks' ss' es es' k s e law fit =
    let entries : c.tokens ≡ tokens (take (c.tokens + 1) ks) = omega (arith, law.kinds_long) in
    let fronts : Holds m edition (take (c.tokens + 1) ks) (take (c.tokens + 1) ss) (take c.errors es) =
    record { law = subst (λ n. Lexes m edition n (take (c.tokens + 1) ks) (take (c.tokens + 1) ss) (take c.errors es)) entries law; fit = fit }
    in
    subst (λ z. Holds m edition z ss' es') (sym k) (subst (λ z. Holds m edition (take (c.tokens + 1) ks) z es') (sym s) (subst (λ z. Holds m edition (take (c.tokens + 1) ks) (take (c.tokens + 1) ss) z) (sym e) fronts))
