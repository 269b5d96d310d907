-- The first error of a token, by the search among the records. Assumes nothing.
use Rattle.std.proofs.Common.{◌≡◌, ℕ, ◌<◌, Bool, true, false, cond, eqb, ltb, List, [], ◌∷◌, map, length, get_or, IfSome, Some, None, Option, sym, refl, ap, ◌∙◌, subst, arith}
use lib.ListN.{length-map}
use Rattle.std.proofs.lemmas.List.{get_or-map}
use Rattle.std.proofs.lemmas.Bool.Decides.{nat_tests}
use Rattle.script.specs.Admission.{admits}
use Rattle.script.proofs.Bounds.{admitted_short}
use Rattle.records.specs.Cuts.{bisect}
use Rattle.records.specs.Keys.{Ascending, first, later, standing, searched}
use Rattle.lexed_str.specs.declared.error.LexError.{LexError}
use Rattle.lexed_str.specs.Columns.{Columns, tokens}
use Rattle.lexed_str.specs.Offering.{accepts}
use Rattle.lexed_str.specs.Reading.{errors_of, first_of}
use Rattle.lexed_str.proofs.Accepted.{accepted_columns}
use Rattle.lexed_str.proofs.Starts.{tokens_within}

-- the token numbers of the records
abbrev pub numbers : List LexError → List ℕ
numbers es = map (λ (e : LexError). e.token) es

-- the code at a place
abbrev pub code_at : List LexError → Option ℕ → Option ℕ
code_at es None = None
code_at es (Some k) = Some (get_or es k (record { token = 0; code = 0 })).code

code_later : (e : LexError) (es : List LexError) (o : Option ℕ) → code_at es o ≡ code_at (e ∷ es) (later o)
code_later e es None = refl
code_later e es (Some k) = refl

code_by :
    (n : ℕ) (e : LexError) (es : List LexError) (b : Bool) → first_of (errors_of n es) ≡ code_at es (first n (numbers es))
    → first_of (cond b (e.code ∷ errors_of n es) (errors_of n es)) ≡ code_at (e ∷ es) (cond b (Some 0) (later (first n (numbers es))))
code_by n e es true h = refl
code_by n e es false h = h ∙ code_later e es (first n (numbers es))

first_code : (n : ℕ) (es : List LexError) → first_of (errors_of n es) ≡ code_at es (first n (numbers es))
first_code n [] = refl
first_code n (e ∷ es) = code_by n e es (eqb e.token n) (first_code n es)

numbers_ascend : (bs ks ss : List ℕ) (es : List LexError) → Columns bs ks ss es → Ascending (numbers es)
numbers_ascend bs ks ss es c i j l h =
    let long = length-map es (λ (e : LexError). e.token) in
    let none : LexError = record { token = 0; code = 0 } in
    let at_i = get_or-map (λ (e : LexError). e.token) es i none 0 (omega arith) in
    let at_j = get_or-map (λ (e : LexError). e.token) es j none 0 (omega arith) in
    omega (arith, at_i, at_j, c.ascends i j l (omega arith))

-- a token's number fits 32 bits
pub short : (bs ks ss : List ℕ) (es : List LexError) (i : ℕ) → admits bs ≡ true → accepts bs ks ss es ≡ true → i < tokens ks → i < 4294967296
short bs ks ss es i a e l =
    omega (arith, admitted_short bs a, tokens_within bs ks ss es (accepted_columns bs ks ss es e))

-- where the search ends, there is an error
standing_within : (n : ℕ) (keys : List ℕ) (i : ℕ) (o : Option ℕ) → o ≡ standing n keys i → IfSome o (λ k. k < length keys)
standing_within n keys i None e = tt
standing_within n keys i (Some k) e = grind (arith, nat_tests)

pub searched_within : (n : ℕ) (es : List LexError) (o : Option ℕ) → o ≡ searched (λ (e : LexError). e.token) n es → IfSome o (λ k. k < length es)
searched_within n es o e =
    let place = bisect (λ (e : LexError). ltb e.token n) es in
    subst (λ m. IfSome o (λ k. k < m)) (length-map es (λ (e : LexError). e.token)) (standing_within n (numbers es) place o e)

-- what the search answers among the errors of accepted columns
module _ (bs ks ss : List ℕ) (es : List LexError) (e : accepts bs ks ss es ≡ true) (n : ℕ) (o : Option ℕ) (found : Ascending (numbers es) → o ≡ first n (numbers es)) where
  first_there : o ≡ first n (numbers es)
  first_there = found (numbers_ascend bs ks ss es (accepted_columns bs ks ss es e))

  pub found_code : code_at es o ≡ first_of (errors_of n es)
  found_code = ap (code_at es) first_there ∙ sym (first_code n es)
