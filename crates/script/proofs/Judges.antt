-- The test of a script against the Unicode Standard's words. Assumes nothing.
use Rattle.std.proofs.Common.{◌≡◌, ℕ, ◌-◌, ◌≤◌, Bool, true, false, cond, eqb, leb, List, length, take, Some, None, Option, sym, refl, ap, ◌∙◌, subst, arith}
use lib.Seq.{take-length}
use Rattle.std.specs.List.{between}
use Rattle.std.proofs.lemmas.Bool.{leb-true, leb-false, eqb-true, eqb-false, le-leb, lt-leb, eq-eqb, ne_eqb, cond-true, cond-false}
use Rattle.script.specs.declared.refusal.Refusal.{Refusal}
use Rattle.script.specs.declared.refusal.Refusal.TheVariants.{TooLong, NotUtf8}
use Rattle.script.specs.Sequences.{Sequences}
use Rattle.script.specs.Utf8Table.{utf8, WellFormed, Longest}
use Rattle.script.specs.Admission.{most, ill_formed, refusal, Judged}
use Rattle.script.proofs.Joins.{run_joins, run_le, run_longest}
use Rattle.script.proofs.Tables.{utf8_fair}

pub front : (bs : List ℕ) (n : ℕ) → between 0 n bs ≡ take n bs
front bs n = let same : n - 0 ≡ n = omega arith in ap (λ k. take k bs) same

pub longest : (bs : List ℕ) → Longest bs (ill_formed bs)
longest bs = record {
  within = run_le utf8 bs 0 (omega arith);
  front = subst WellFormed (front bs (ill_formed bs)) (run_joins utf8 bs 0);
  longest = λ m l w. run_longest utf8 utf8_fair bs 0 m (omega arith) l (subst (Sequences utf8) (sym (front bs m)) w);
}

judged_by : (bs : List ℕ) (short whole : Bool) → leb (length bs) most ≡ short → eqb (ill_formed bs) (length bs) ≡ whole → Judged bs (cond short (cond whole None (Some (NotUtf8 (ill_formed bs)))) (Some TooLong))
judged_by bs false whole s w = leb-false (length bs) most s
judged_by bs true true s w =
    (leb-true (length bs) most s, subst WellFormed (ap (λ n. take n bs) (eqb-true (ill_formed bs) (length bs) w) ∙ take-length bs) (longest bs).front)
judged_by bs true false s w =
    let place = longest bs in
    (leb-true (length bs) most s, omega (arith, place.within, eqb-false (ill_formed bs) (length bs) w), place)

pub judged : (bs : List ℕ) (o : Option Refusal) → o ≡ refusal bs → Judged bs o
judged bs o e = subst (Judged bs) (sym e) (judged_by bs (leb (length bs) most) (eqb (ill_formed bs) (length bs)) refl refl)

-- and no other answer stands
pub judged_only : (bs : List ℕ) (o : Option Refusal) → Judged bs o → o ≡ refusal bs
judged_only bs None j =
    let all : length bs ≤ ill_formed bs = (longest bs).longest (length bs) (omega arith) (subst WellFormed (sym (take-length bs)) j.1) in
    let same : ill_formed bs ≡ length bs = omega (arith, (longest bs).within) in
    sym (cond-true (leb (length bs) most) (cond (eqb (ill_formed bs) (length bs)) None (Some (NotUtf8 (ill_formed bs)))) (Some TooLong) (le-leb (length bs) most j.0)
    ∙ cond-true (eqb (ill_formed bs) (length bs)) None (Some (NotUtf8 (ill_formed bs))) (eq-eqb (ill_formed bs) (length bs) same))
judged_only bs (Some TooLong) j =
    sym (cond-false (leb (length bs) most) (cond (eqb (ill_formed bs) (length bs)) None (Some (NotUtf8 (ill_formed bs)))) (Some TooLong) (lt-leb (length bs) most j))
judged_only bs (Some (NotUtf8 at)) j =
    let mine = longest bs in
    let front = j.2 in
    let same : at ≡ ill_formed bs = omega (arith, mine.longest at front.within front.front, front.longest (ill_formed bs) mine.within mine.front) in
    ap (λ (k : ℕ). Some (NotUtf8 k)) same
    ∙ sym (cond-true (leb (length bs) most) (cond (eqb (ill_formed bs) (length bs)) None (Some (NotUtf8 (ill_formed bs)))) (Some TooLong) (le-leb (length bs) most j.0)
    ∙ cond-false (eqb (ill_formed bs) (length bs)) None (Some (NotUtf8 (ill_formed bs))) (ne_eqb (ill_formed bs) (length bs) (λ e. omega (arith, j.1))))
