-- The columns at the end.
use Rattle.std.proofs.Common.{◌≡◌, ℕ, suc, ◌+◌, ◌-◌, ◌<◌, ◌≤◌, List, [], ◌∷◌, ◌++◌, length, take, drop, set, sym, ap, ◌∙◌, arith}
use Rattle.std.proofs.lemmas.List.{append_assoc, take-append-drop, length-append, length-take-le, set_split, drop-drop}
use Rattle.lexed_str.specs.declared.error.LexError.{LexError}
use Rattle.converter.specs.declared.progress.Progress.{Progress}
use Rattle.converter.specs.Columns.{over, held}
use Rattle.converter.specs.Lexing.{Lexed, lexed, extend_all, head_of}
use Rattle.converter.specs.Meaning.{Meaning}

-- the front of a column is xs, and its rest as before
pub over_front : {X : Type 0} (xs now before : List X) (n : ℕ) → n ≤ length now → take n now ≡ xs → drop n now ≡ drop n before → (now ≡ over xs before) × (n ≡ length xs)
over_front xs now before n l front rest =
    let long : n ≡ length xs = sym (length-take-le n now l) ∙ ap length front in
    (sym (take-append-drop n now) ∙ ap (λ x. x ++ drop n now) front ∙ ap (λ x. xs ++ x) rest ∙ ap (λ k. xs ++ drop k before) long, long)

-- and one entry more is written behind it
pub over_last : {X : Type 0} (xs now before : List X) (n : ℕ) (v : X) → n < length now → take n now ≡ xs → drop n now ≡ drop n before → set now n v ≡ over (xs ++ v ∷ []) before
over_last xs now before n v l front rest =
    let long : n ≡ length xs = sym (length-take-le n now (omega arith)) ∙ ap length front in
    let more : n + 1 ≡ length (xs ++ v ∷ []) = omega (arith, length-append xs (v ∷ [])) in
    let one : suc n ≡ n + 1 = omega arith in
    let rest' : drop (n + 1) now ≡ drop (n + 1) before = sym (drop-drop 1 n now) ∙ ap (drop 1) rest ∙ drop-drop 1 n before in
    set_split now n v l
    ∙ ap (λ x. x ++ v ∷ drop (suc n) now) front
    ∙ ap (λ k. xs ++ v ∷ drop k now) one
    ∙ ap (λ x. xs ++ v ∷ x) rest'
    ∙ sym (append_assoc xs (v ∷ []) (drop (n + 1) before))
    ∙ ap (λ k. (xs ++ v ∷ []) ++ drop k before) more

-- the head, then all the rest: the columns are those of the definition
pub all_held : (m : Meaning) (edition : ℕ) (ks₁ ss₁ ks₂ ss₂ : List ℕ) (es₁ es₂ : List LexError) (p q : Progress)
    → p.tokens ≤ length ks₁ → held ks₁ ss₁ es₁ p ≡ head_of m
    → held ks₂ ss₂ es₂ q ≡ extend_all m edition (length m.script - p.tokens) (held ks₁ ss₁ es₁ p)
    → held ks₂ ss₂ es₂ q ≡ lexed m edition
all_held m edition ks₁ ss₁ ks₂ ss₂ es₁ es₂ p q l first second =
    let long : p.tokens ≡ length (head_of m).kinds = sym (length-take-le p.tokens ks₁ l) ∙ ap (λ (x : Lexed). length x.kinds) first in
    second ∙ ap (λ x. extend_all m edition (length m.script - p.tokens) x) first ∙ ap (λ k. extend_all m edition (length m.script - k) (head_of m)) long
