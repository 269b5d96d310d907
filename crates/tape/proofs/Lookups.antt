-- The mark that the search for a place finds. Assumes nothing.
use Rattle.std.proofs.Common.{◌≡◌, ℕ, ◌≤◌, Bool, true, false, cond, eqb, List, [], ◌∷◌, map, length, Some, None, Option, IfSome, sym, refl, ap, ◌∙◌, arith}
use Rattle.std.specs.List.{slice_get}
use Rattle.std.specs.Option.{option_and_then}
use Rattle.std.proofs.lemmas.Bool.Decides.{nat_tests}
use Rattle.records.specs.Keys.{Ascending, first, later}
use Rattle.tape.specs.declared.mark.Mark.{Mark}
use Rattle.tape.specs.declared.tape.Tape.{Tape}
use Rattle.tape.specs.Rules.{lawful_count}
use Rattle.tape.specs.Meaning.{mark_at}
use Rattle.tape.specs.TapeLaws.{found}
use Rattle.tape.proofs.Counts.{keep, ascends, in_order}

-- the first mark at a place is the one with the first number at which the place stands
abbrev places : List Mark → List ℕ
places ms = map (λ m. m.place) ms

later_in : (m : Mark) (ms : List Mark) (o : Option ℕ) → option_and_then (slice_get (m ∷ ms)) (later o) ≡ option_and_then (slice_get ms) o
later_in m ms None = refl
later_in m ms (Some i) = refl

marked_step : (p : ℕ) (m : Mark) (ms : List Mark) (b : Bool) → option_and_then (slice_get ms) (first p (places ms)) ≡ mark_at p ms → option_and_then (slice_get (m ∷ ms)) (cond b (Some 0) (later (first p (places ms)))) ≡ cond b (Some m) (mark_at p ms)
marked_step p m ms true e = refl
marked_step p m ms false e = later_in m ms (first p (places ms)) ∙ e

marked : (p : ℕ) (ms : List Mark) → option_and_then (slice_get ms) (first p (places ms)) ≡ mark_at p ms
marked p [] = refl
marked p (m ∷ ms) = marked_step p m ms (eqb m.place p) (marked p ms)

-- what a tape's test says of its marks
module _ (tape : Tape) where
  all_lawful : lawful_count tape.script.bytes.now (length tape.faults.now) tape.marks.now ≡ length tape.marks.now
  all_lawful = let test = tape.fits in grind (arith, nat_tests)

  ascending : Ascending (places tape.marks.now)
  ascending =
      let bs = tape.script.bytes.now in
      let column = length tape.faults.now in
      in_order tape.marks.now (ascends bs column tape.marks.now (λ i l. keep bs column tape.marks.now i (omega (arith, all_lawful))))

  -- what a search that finds the first among ascending places has found
  pub searched : (p : ℕ) (o : Option ℕ) → (Ascending (places tape.marks.now) → o ≡ first p (places tape.marks.now)) → option_and_then (slice_get tape.marks.now) o ≡ mark_at p tape.marks.now
  searched p o finds = ap (option_and_then (slice_get tape.marks.now)) (finds ascending) ∙ marked p tape.marks.now

  -- a mark's part of the fault column lies within it
  part : (p : ℕ) (m : Mark) → mark_at p tape.marks.now ≡ Some m → (m.faults_from ≤ m.faults_to) × (m.faults_to ≤ length tape.faults.now)
  part p m e =
      let test = (found tape.script.bytes.now (length tape.faults.now) 0 p tape.marks.now m all_lawful e).1 in
      (grind (arith, nat_tests), grind (arith, nat_tests))

  pub part_within : (p : ℕ) (o : Option Mark) → o ≡ mark_at p tape.marks.now → IfSome o (λ m. (m.faults_from ≤ m.faults_to) × (m.faults_to ≤ length tape.faults.now))
  part_within p None e = tt
  part_within p (Some m) e = part p m (sym e)
