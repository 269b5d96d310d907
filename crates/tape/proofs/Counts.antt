-- How many marks keep the rules: what the loop counts, and what the count says of each mark. Assumes nothing.
use Rattle.std.proofs.Common.{◌≡◌, ℕ, zero, suc, ◌+◌, ◌<◌, ◌≤◌, Bool, true, false, cond, List, [], ◌∷◌, map, length, get_or, drop, sym, refl, ap, ◌∙◌, subst, ⊎_elim, arith}
use lib.ListN.{length-map}
use Rattle.std.proofs.lemmas.List.{drop_more, drop_all, get_or-map}
use Rattle.std.proofs.lemmas.Bool.Decides.{nat_tests}
use Rattle.std.proofs.lemmas.Bool.{cond-true, cond-false, cases_lt, cases_eq}
use Rattle.records.specs.Keys.{Ascending}
use Rattle.tape.specs.declared.mark.Mark.{Mark}
use Rattle.tape.specs.Rules.{lawful, lawful_from, lawful_count}
use Rattle.tape.specs.Recordings.{nth, Lawful, Keep, Ascend}

module _ (bs : List ℕ) (column : ℕ) where
  -- a turn of the loop: the mark that is read ends the count, or adds one to it
  read : (ms : List Mark) (i least : ℕ) (d : Mark) → i < length ms → lawful_from bs column least (drop i ms) ≡ cond (lawful bs column least (get_or ms i d)) (suc (lawful_from bs column ((get_or ms i d).place + 1) (drop (i + 1) ms))) 0
  read ms i least d l = ap (lawful_from bs column least) (drop_more ms i d l)

  pub stops : (ms : List Mark) (i least n : ℕ) (d : Mark) → i < length ms → false ≡ lawful bs column least (get_or ms i d) → i + lawful_from bs column least (drop i ms) ≡ n → i ≡ n
  stops ms i least n d l e inv =
      let none : lawful_from bs column least (drop i ms) ≡ 0 = read ms i least d l ∙ cond-false (lawful bs column least (get_or ms i d)) (suc (lawful_from bs column ((get_or ms i d).place + 1) (drop (i + 1) ms))) 0 (sym e) in
      omega arith

  pub goes_on : (ms : List Mark) (i least n : ℕ) (d : Mark) → i < length ms → true ≡ lawful bs column least (get_or ms i d) → i + lawful_from bs column least (drop i ms) ≡ n → i + 1 + lawful_from bs column ((get_or ms i d).place + 1) (drop (i + 1) ms) ≡ n
  goes_on ms i least n d l e inv =
      let more : lawful_from bs column least (drop i ms) ≡ suc (lawful_from bs column ((get_or ms i d).place + 1) (drop (i + 1) ms)) =
      read ms i least d l ∙ cond-true (lawful bs column least (get_or ms i d)) (suc (lawful_from bs column ((get_or ms i d).place + 1) (drop (i + 1) ms))) 0 (sym e) in
      omega arith

  pub all_read : (ms : List Mark) (i least n : ℕ) → i ≡ length ms → i + lawful_from bs column least (drop i ms) ≡ n → length ms ≡ n
  all_read ms i least n e inv =
      let none : lawful_from bs column least (drop i ms) ≡ 0 = ap (lawful_from bs column least) (drop_all i ms (omega arith)) in
      omega arith

  -- the lowest place that the mark with the number i may have
  abbrev least_at : ℕ → List Mark → ℕ → ℕ
  least_at least ms zero = least
  least_at least ms (suc i) = (nth ms i).place + 1

  least_next : (least : ℕ) (m : Mark) (ms : List Mark) (i : ℕ) → least_at (m.place + 1) ms i ≡ least_at least (m ∷ ms) (suc i)
  least_next least m ms zero = refl
  least_next least m ms (suc i) = refl

  count_step : (least : ℕ) (m : Mark) (ms : List Mark) (i : ℕ) (b : Bool) → lawful bs column least m ≡ b → ((j : ℕ) → j < lawful_from bs column (m.place + 1) ms → lawful bs column (least_at (m.place + 1) ms j) (nth ms j) ≡ true) → i < cond b (suc (lawful_from bs column (m.place + 1) ms)) 0 → lawful bs column (least_at least (m ∷ ms) i) (nth (m ∷ ms) i) ≡ true
  count_step least m ms i false e ih l = absurd (omega arith)
  count_step least m ms zero true e ih l = e
  count_step least m ms (suc i) true e ih l = ap (λ k. lawful bs column k (nth ms i)) (sym (least_next least m ms i)) ∙ ih i (omega arith)

  -- each mark of the count keeps the rules
  counted : (least : ℕ) (ms : List Mark) (i : ℕ) → i < lawful_from bs column least ms → lawful bs column (least_at least ms i) (nth ms i) ≡ true
  counted least [] i l = absurd (omega arith)
  counted least (m ∷ ms) i l = count_step least m ms i (lawful bs column least m) refl (counted (m.place + 1) ms) l

  stop_step : (least : ℕ) (m : Mark) (ms : List Mark) (b : Bool) → lawful bs column least m ≡ b → (lawful_from bs column (m.place + 1) ms < length ms → lawful bs column (least_at (m.place + 1) ms (lawful_from bs column (m.place + 1) ms)) (nth ms (lawful_from bs column (m.place + 1) ms)) ≡ false) → cond b (suc (lawful_from bs column (m.place + 1) ms)) 0 < suc (length ms) → lawful bs column (least_at least (m ∷ ms) (cond b (suc (lawful_from bs column (m.place + 1) ms)) 0)) (nth (m ∷ ms) (cond b (suc (lawful_from bs column (m.place + 1) ms)) 0)) ≡ false
  stop_step least m ms false e ih l = e
  stop_step least m ms true e ih l =
      let n = lawful_from bs column (m.place + 1) ms in
      ap (λ k. lawful bs column k (nth ms n)) (sym (least_next least m ms n)) ∙ ih (omega arith)

  -- the mark that ends the count breaks them
  stopped : (least : ℕ) (ms : List Mark) → lawful_from bs column least ms < length ms → lawful bs column (least_at least ms (lawful_from bs column least ms)) (nth ms (lawful_from bs column least ms)) ≡ false
  stopped least [] l = absurd (omega arith)
  stopped least (m ∷ ms) l = stop_step least m ms (lawful bs column least m) refl (stopped (m.place + 1) ms) l

  few_step : (m : Mark) (ms : List Mark) (b : Bool) → lawful_from bs column (m.place + 1) ms ≤ length ms → cond b (suc (lawful_from bs column (m.place + 1) ms)) 0 ≤ suc (length ms)
  few_step m ms true l = omega arith
  few_step m ms false l = omega arith

  few : (least : ℕ) (ms : List Mark) → lawful_from bs column least ms ≤ length ms
  few least [] = omega arith
  few least (m ∷ ms) = few_step m ms (lawful bs column least m) (few (m.place + 1) ms)

  pub count_within : (ms : List Mark) → lawful_count bs column ms ≤ length ms
  count_within ms = few 0 ms

  -- the test and the rules in words
  after_by : (ms : List Mark) (i : ℕ) → least_at 0 ms i ≤ (nth ms i).place → (j : ℕ) → j + 1 ≡ i → (nth ms j).place < (nth ms i).place
  after_by ms zero l j e = absurd (omega arith)
  after_by ms (suc i) l j e = let same : j ≡ i = omega arith in subst (λ k. (nth ms k).place < (nth ms (suc i)).place) (sym same) (omega arith)

  least_by : (ms : List Mark) (i : ℕ) → ((j : ℕ) → j + 1 ≡ i → (nth ms j).place < (nth ms i).place) → least_at 0 ms i ≤ (nth ms i).place
  least_by ms zero after = omega arith
  least_by ms (suc i) after = omega (arith, after i (omega arith))

  in_words : (ms : List Mark) (i : ℕ) → lawful bs column (least_at 0 ms i) (nth ms i) ≡ true → Lawful bs column ms i
  in_words ms i e = record {
    there = grind (arith, nat_tests);
    after = after_by ms i (grind (arith, nat_tests));
    part = grind (arith, nat_tests);
    within = grind (arith, nat_tests);
    kept = grind (arith, nat_tests);
  }

  from_words : (ms : List Mark) (i : ℕ) → Lawful bs column ms i → lawful bs column (least_at 0 ms i) (nth ms i) ≡ true
  from_words ms i h = let least = least_by ms i h.after in grind (arith, nat_tests)

  pub keep : (ms : List Mark) → Keep bs column ms (lawful_count bs column ms)
  keep ms i l = in_words ms i (counted 0 ms i l)

  pub breaks : (ms : List Mark) → lawful_count bs column ms < length ms → Lawful bs column ms (lawful_count bs column ms) → ⊥
  breaks ms l h =
      let yes = from_words ms (lawful_count bs column ms) h in
      let no = stopped 0 ms l in
      cc

  -- and no more marks at the front keep them
  pub keep_most : (ms : List Mark) (n : ℕ) → n ≤ length ms → Keep bs column ms n → n ≤ lawful_count bs column ms
  keep_most ms n l all =
      ⊎_elim
      (λ (fewer : lawful_count bs column ms < n). absurd (breaks ms (omega arith) (all (lawful_count bs column ms) fewer)))
      (λ (most : n ≤ lawful_count bs column ms). most)
      (cases_lt (lawful_count bs column ms) n)

-- marks that each stand above the one before stand above all before
ascend_by : (ms : List Mark) (n : ℕ) → ((j : ℕ) → j + 1 < n → (nth ms j).place < (nth ms (j + 1)).place) → (i j : ℕ) → i < j → j < n → (nth ms i).place < (nth ms j).place
ascend_by ms n next i zero l h = absurd (omega arith)
ascend_by ms n next i (suc j) l h =
    let one : j + 1 ≡ suc j = omega arith in
    let step : (nth ms j).place < (nth ms (suc j)).place = subst (λ k. (nth ms j).place < (nth ms k).place) one (next j (omega arith)) in
    ⊎_elim
    (λ (same : i ≡ j). subst (λ k. (nth ms k).place < (nth ms (suc j)).place) (sym same) step)
    (λ (other : i ≡ j → ⊥). omega (arith, step, ascend_by ms n next i j (omega (arith, other)) (omega arith)))
    (cases_eq i j)

pub ascends : (bs : List ℕ) (column : ℕ) (ms : List Mark) → Keep bs column ms (length ms) → Ascend ms
ascends bs column ms all = ascend_by ms (length ms) (λ j l. (all (j + 1) l).after j refl)

-- so their places are in order
pub place_at : (ms : List Mark) (i : ℕ) → i < length ms → get_or (map (λ (m : Mark). m.place) ms) i 0 ≡ (nth ms i).place
place_at ms i l = get_or-map (λ (m : Mark). m.place) ms i (nth [] 0) 0 l

pub in_order : (ms : List Mark) → Ascend ms → Ascending (map (λ (m : Mark). m.place) ms)
in_order ms up i j l h =
    let long = length-map ms (λ (m : Mark). m.place) in
    let here = place_at ms i (omega arith) in
    let there = place_at ms j (omega arith) in
    ⊎_elim
    (λ (below : i < j). omega (arith, up i j below (omega arith)))
    (λ (not : j ≤ i). let same : i ≡ j = omega arith in subst (λ k. get_or (map (λ (m : Mark). m.place) ms) i 0 ≤ get_or (map (λ (m : Mark). m.place) ms) k 0) same (omega arith))
    (cases_lt i j)
