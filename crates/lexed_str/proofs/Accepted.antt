-- The test of offered columns against their property, both ways. Assumes nothing.
use Rattle.std.proofs.Common.{◌≡◌, ℕ, ◌+◌, ◌-◌, ◌<◌, ◌↔◌, IsTrue, Bool, true, false, leb, List, length, refl, arith}
use Rattle.std.proofs.lemmas.Bool.{leb-true, le-leb, false≢true}
use Rattle.std.proofs.lemmas.Bool.Decides.{nat_tests}
use Rattle.std.proofs.lemmas.Grind.{common_steps}
use Rattle.std.proofs.lemmas.List.{get_or_default}
use Rattle.std.proofs.lemmas.List.Sorted.{IsNonDecreasingBy-from_all_adjacent}
use Rattle.std.specs.List.{IsAllAdjacentAnswer}
use Rattle.std.specs.List.Sorted.{IsNonDecreasingBy}
use Rattle.std.specs.Ordering.{nat_cmp, is_le}
use Rattle.script.specs.Places.{boundary}
use Rattle.lexed_str.specs.declared.error.LexError.{LexError}
use Rattle.lexed_str.specs.Columns.{Columns, eof, last_kind, tokens, kind_at, start_at, token_at}
use Rattle.lexed_str.specs.Judging.{Known}
use Rattle.lexed_str.specs.Offering.{all_below, kinds_known, ends_fit, token_fits, error_fits, columns_fit, accepts}
use Rattle.lexed_str.proofs.Below.{below_each, below_all}

-- kinds
pub known_each : (ks : List ℕ) → kinds_known ks ≡ true → Known ks
known_each ks e i l = leb-true (kind_at ks i) last_kind (below_each (λ j. leb (kind_at ks j) last_kind) (length ks) e i l)

pub each_known : (ks : List ℕ) → Known ks → kinds_known ks ≡ true
each_known ks h = below_all (λ j. leb (kind_at ks j) last_kind) (length ks) (λ i l. le-leb (kind_at ks i) last_kind (h i l))

-- one token
Fits : List ℕ → List ℕ → List ℕ → ℕ → Type 0
Fits bs ks ss i = (kind_at ks i ≡ eof → ⊥) × (boundary bs (start_at ss i) ≡ true) × (start_at ss i < start_at ss (i + 1))

token_parts : (bs ks ss : List ℕ) (i : ℕ) → token_fits bs ks ss i ≡ true → Fits bs ks ss i
unfolding Fits
token_parts bs ks ss i e = (λ end. grind (arith, nat_tests), grind (arith, nat_tests), grind (arith, nat_tests))

token_from : (bs ks ss : List ℕ) (i : ℕ) → Fits bs ks ss i → token_fits bs ks ss i ≡ true
unfolding Fits
token_from bs ks ss i h =
    let inner = h.0 in
    let whole = h.1 in
    let rises = h.2 in
    grind (arith, nat_tests)

-- the token of an error
abbrev token_of : LexError → ℕ
token_of e = e.token

-- errors whose tokens ascend, the last of which fits: each error fits
pub errors_each :
    (n : ℕ) (es : List LexError) → IsNonDecreasingBy token_of es → (0 < length es → token_at es (length es - 1) < n)
    → (k : ℕ) → k < length es → error_fits n es k ≡ true
errors_each n es ascend last k l =
    let none : LexError = record { token = 0; code = 0 } in
    let within : token_at es k < n = omega (arith, last (omega arith), ascend k (length es - 1) none (omega arith) (omega arith)) in
    let before = ascend (k - 1) k none (omega arith) l in
    grind (arith, nat_tests)

-- and where each error fits, they ascend, and the last one fits
pub each_ascends : (n : ℕ) (es : List LexError) → ((k : ℕ) → k < length es → error_fits n es k ≡ true) → IsNonDecreasingBy token_of es
each_ascends n es each =
    IsNonDecreasingBy-from_all_adjacent token_of es
    (λ k d l.
    let none : LexError = record { token = 0; code = 0 } in
    let here : k + 1 - 1 ≡ k = omega arith in
    let fits = rw here at (each (k + 1) l) in
    rw (get_or_default es k d none (omega arith), get_or_default es (k + 1) d none l) (grind (arith, nat_tests)))

pub each_last :
    (n : ℕ) (es : List LexError) → ((k : ℕ) → k < length es → error_fits n es k ≡ true)
    → 0 < length es → token_at es (length es - 1) < n
each_last n es each l =
    let fits = each (length es - 1) (omega arith) in
    grind (arith, nat_tests)

-- what `is_sorted_by_key` says of errors by their tokens
pub sorted_told :
    (es : List LexError) (r : Bool) → IsAllAdjacentAnswer (λ (x y : LexError) b. b ≡ is_le (nat_cmp x.token y.token)) es r
    → IsTrue r ↔ IsNonDecreasingBy token_of es
sorted_told es true h =
    (λ e. IsNonDecreasingBy-from_all_adjacent token_of es (λ k d l. let here = h k d l in grind (arith, nat_tests)), λ ascend. refl)
sorted_told es false h =
    let none : LexError = record { token = 0; code = 0 } in
    let fails = h.2 none in
    (λ e. absurd (false≢true e), λ ascend. let next = ascend h.0 (h.0 + 1) none (omega arith) h.1 in grind (arith, nat_tests))

pub columns_from : (bs ks ss : List ℕ) (es : List LexError) → Known ks → columns_fit bs ks ss es ≡ true → Columns bs ks ss es
unfolding Fits
columns_from bs ks ss es known e =
    let n = tokens ks in
    let ends : ends_fit bs ks ss ≡ true = grind (arith, common_steps) in
    let inner : all_below n (token_fits bs ks ss) ≡ true = grind (arith, common_steps) in
    let errors : all_below (length es) (error_fits n es) ≡ true = grind (arith, common_steps) in
    let fits : (i : ℕ) → i < n → Fits bs ks ss i = λ i l. token_parts bs ks ss i (below_each (token_fits bs ks ss) n inner i l) in
    let named : (k : ℕ) → k < length es → error_fits n es k ≡ true = below_each (error_fits n es) (length es) errors in
    record {
      same = grind (arith, nat_tests);
      known = known;
      inner = λ i l. (fits i l).0;
      closes = grind (arith, nat_tests);
      begins = grind (arith, nat_tests);
      rises = λ i l. (fits i l).2;
      whole = λ i l. (fits i l).1;
      ends = grind (arith, nat_tests);
      names = λ k l. let here = named k l in grind (arith, nat_tests);
      ascends = λ j k l h. each_ascends n es named j k (record { token = 0; code = 0 }) l h;
    }

pub columns_fit_lem : (bs ks ss : List ℕ) (es : List LexError) → Columns bs ks ss es → columns_fit bs ks ss es ≡ true
unfolding Fits
columns_fit_lem bs ks ss es c =
    let n = tokens ks in
    let ends : ends_fit bs ks ss ≡ true = let a = c.same in let b = c.closes in let d = c.begins in let f = c.ends in grind (arith, nat_tests) in
    let inner = below_all (token_fits bs ks ss) n (λ i l. token_from bs ks ss i (c.inner i l, c.whole i l, c.rises i l)) in
    let errors =
    below_all (error_fits n es) (length es)
    (λ k l. let names = c.names k l in let ascends = c.ascends (k - 1) k (omega arith) l in grind (arith, nat_tests)) in
    grind (arith, common_steps)

-- accepted columns have the property
pub accepted_columns : (bs ks ss : List ℕ) (es : List LexError) → accepts bs ks ss es ≡ true → Columns bs ks ss es
accepted_columns bs ks ss es e = columns_from bs ks ss es (known_each ks (grind (arith, common_steps))) (grind (arith, common_steps))
