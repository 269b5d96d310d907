-- The test of a recording against the rules in words. Assumes nothing.
use Rattle.std.proofs.Common.{◌≡◌, ℕ, ◌<◌, ◌≤◌, Bool, true, false, cond, eqb, leb, List, length, Some, None, Option, sym, refl, ap, ◌∙◌, subst, ⊎_elim, arith}
use Rattle.std.proofs.lemmas.Bool.{eqb-true, eqb-false, eq-eqb, ne_eqb, cases_lt}
use Rattle.script.specs.Admission.{most, ill_formed}
use Rattle.script.specs.Admission as admission
use Rattle.script.specs.declared.refusal.Refusal.{Refusal as Unread}
use Rattle.script.specs.declared.refusal.Refusal.TheVariants as script
use Rattle.script.proofs.Judges as scripts
use Rattle.raw.specs.Laws.{shebang_keeps}
use Rattle.raw.specs.declared.kinds.EscapeError.{EscapeError}
use Rattle.tape.specs.declared.mark.Mark.{Mark}
use Rattle.tape.specs.declared.refusal.Refusal.{Refusal}
use Rattle.tape.specs.declared.refusal.Refusal.TheVariants as refused
use Rattle.tape.specs.Rules.{lawful_count}
use Rattle.tape.specs.Recordings.{unread, refusal_over, refusal, Keep, JudgedOver, Judged}
use Rattle.tape.proofs.Counts.{count_within, keep, breaks, keep_most, ascends}

module _ (bs : List ℕ) (ms : List Mark) (fs : List EscapeError) (n : ℕ) where
  keep_all : lawful_count bs (length fs) ms ≡ length ms → Keep bs (length fs) ms (length ms)
  keep_all e i l = keep bs (length fs) ms i (omega arith)

  over_by : (all shebang : Bool) → eqb (lawful_count bs (length fs) ms) (length ms) ≡ all → shebang_keeps bs n ≡ shebang → JudgedOver bs ms fs n (cond all (cond shebang None (Some (refused.Shebang (length ms)))) (Some (refused.Mark (lawful_count bs (length fs) ms))))
  over_by true true a s =
      let all = keep_all (eqb-true (lawful_count bs (length fs) ms) (length ms) a) in
      (all, ascends bs (length fs) ms all, s)
  over_by true false a s = (keep_all (eqb-true (lawful_count bs (length fs) ms) (length ms) a), refl, s)
  over_by false shebang a s =
      let other = eqb-false (lawful_count bs (length fs) ms) (length ms) a in
      let fewer : lawful_count bs (length fs) ms < length ms = omega (arith, other, count_within bs (length fs) ms) in
      (fewer, keep bs (length fs) ms, breaks bs (length fs) ms fewer)

  pub judged_over : (o : Option Refusal) → o ≡ refusal_over bs ms fs n → JudgedOver bs ms fs n o
  judged_over o e = subst (JudgedOver bs ms fs n) (sym e) (over_by (eqb (lawful_count bs (length fs) ms) (length ms)) (shebang_keeps bs n) refl refl)

  -- bytes that are no script are refused first
  abbrev first : Bool → Bool → Option Refusal → Option Refusal
  first short whole o = cond short (cond whole o (Some (refused.NotUtf8 (ill_formed bs)))) (Some refused.TooLong)

  abbrev script_first : Bool → Bool → Option Unread
  script_first short whole = cond short (cond whole None (Some (script.NotUtf8 (ill_formed bs)))) (Some script.TooLong)

  over_by_script : (short whole : Bool) (o : Option Refusal) → None ≡ script_first short whole → o ≡ first short whole o
  over_by_script true true o e = refl
  over_by_script true false o e = cc
  over_by_script false whole o e = cc

  pub over_script : (o : Option Refusal) → None ≡ admission.refusal bs → o ≡ refusal_over bs ms fs n → o ≡ refusal bs ms fs n
  over_script o e h = h ∙ over_by_script (leb (length bs) most) (eqb (ill_formed bs) (length bs)) (refusal_over bs ms fs n) e

  unread_by : (short whole : Bool) (o : Option Refusal) (why : Unread) → Some why ≡ script_first short whole → Some (unread why) ≡ first short whole o
  unread_by true true o why e = cc
  unread_by true false o why e = let same : why ≡ script.NotUtf8 (ill_formed bs) = cc in ap (λ (w : Unread). Some (unread w)) same
  unread_by false whole o why e = let same : why ≡ script.TooLong = cc in ap (λ (w : Unread). Some (unread w)) same

  pub over_none : (why : Unread) → Some why ≡ admission.refusal bs → Some (unread why) ≡ refusal bs ms fs n
  over_none why e = unread_by (leb (length bs) most) (eqb (ill_formed bs) (length bs)) (refusal_over bs ms fs n) why e

  joined : (o : Option Refusal) → admission.Judged bs None → JudgedOver bs ms fs n o → Judged bs ms fs n o
  joined None a j = (a, j)
  joined (Some refused.TooLong) a j = absurd j
  joined (Some (refused.NotUtf8 at)) a j = absurd j
  joined (Some (refused.Mark k)) a j = (a, j)
  joined (Some (refused.Shebang k)) a j = (a, j)

  judged_by : (short whole : Bool) (o : Option Refusal) → admission.Judged bs (script_first short whole) → JudgedOver bs ms fs n o → Judged bs ms fs n (first short whole o)
  judged_by true true o a j = joined o a j
  judged_by true false o a j = a
  judged_by false whole o a j = a

  pub judged : (o : Option Refusal) → o ≡ refusal bs ms fs n → Judged bs ms fs n o
  judged o e =
      subst (Judged bs ms fs n) (sym e)
      (judged_by (leb (length bs) most) (eqb (ill_formed bs) (length bs)) (refusal_over bs ms fs n) (scripts.judged bs _ refl) (judged_over _ refl))

  -- and no other answer stands
  count_all : Keep bs (length fs) ms (length ms) → eqb (lawful_count bs (length fs) ms) (length ms) ≡ true
  count_all all = eq-eqb (lawful_count bs (length fs) ms) (length ms) (omega (arith, count_within bs (length fs) ms, keep_most bs (length fs) ms (length ms) (omega arith) all))

  pub judged_over_only : (o : Option Refusal) → JudgedOver bs ms fs n o → o ≡ refusal_over bs ms fs n
  judged_over_only None j = rw (count_all j.0, j.2)
  judged_over_only (Some refused.TooLong) j = absurd j
  judged_over_only (Some (refused.NotUtf8 at)) j = absurd j
  judged_over_only (Some (refused.Mark k)) j =
      let low = keep_most bs (length fs) ms k (omega (arith, j.0)) j.1 in
      let high : lawful_count bs (length fs) ms ≤ k =
      ⊎_elim
      (λ (more : k < lawful_count bs (length fs) ms). absurd (j.2 (keep bs (length fs) ms k more)))
      (λ (most : lawful_count bs (length fs) ms ≤ k). most)
      (cases_lt k (lawful_count bs (length fs) ms)) in
      let same : k ≡ lawful_count bs (length fs) ms = omega arith in
      let fewer : eqb (lawful_count bs (length fs) ms) (length ms) ≡ false = ne_eqb (lawful_count bs (length fs) ms) (length ms) (λ e. omega (arith, j.0)) in
      rw (same, fewer)
  judged_over_only (Some (refused.Shebang k)) j = rw (j.1, count_all j.0, j.2)

  pub judged_only : (o : Option Refusal) → Judged bs ms fs n o → o ≡ refusal bs ms fs n
  judged_only None j = over_script None (scripts.judged_only bs None j.0) (judged_over_only None j.1)
  judged_only (Some refused.TooLong) j = over_none script.TooLong (scripts.judged_only bs (Some script.TooLong) j)
  judged_only (Some (refused.NotUtf8 at)) j = over_none (script.NotUtf8 at) (scripts.judged_only bs (Some (script.NotUtf8 at)) j)
  judged_only (Some (refused.Mark k)) j = over_script (Some (refused.Mark k)) (scripts.judged_only bs None j.0) (judged_over_only (Some (refused.Mark k)) j.1)
  judged_only (Some (refused.Shebang k)) j = over_script (Some (refused.Shebang k)) (scripts.judged_only bs None j.0) (judged_over_only (Some (refused.Shebang k)) j.1)
