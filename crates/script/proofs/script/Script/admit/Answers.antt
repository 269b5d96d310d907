use Rattle.std.proofs.Common.{◌≡◌, Some, None, sym, refl, ◌∙◌, arith}
use Rattle.std.proofs.lemmas.Bool.Decides.{nat_tests}
use Rattle.script.specs.Admission.{refusal}
use Rattle.script.specs.declared.refusal.Refusal.TheVariants.{NotUtf8}
use Rattle.script.specs.Utf8Table.{utf8}
use Rattle.script.proofs.Joins.{run_le}
use Rattle.script.proofs.Judges.{judged, judged_only}
use Rattle.script.proofs.script.Script.admit.Goals as goal

pub returns-then-at-bytes : goal.returns-then-at-bytes
returns-then-at-bytes c =
    let bs = c.args.bytes.now in
    let e : Some (NotUtf8 c.run_end-at.result) ≡ refusal bs = grind (arith, nat_tests) in
    record { refused = e; script = tt; judged = judged bs _ e; only = λ o j. judged_only bs o j ∙ sym e }

pub invariant_of-result : goal.invariant_of-result
invariant_of-result c =
    let within = run_le utf8 c.args.bytes.now 0 (omega arith) in
    record { fits = grind (arith, nat_tests) }

pub returns : goal.returns
returns c =
    let bs = c.args.bytes.now in
    let within = run_le utf8 bs 0 (omega arith) in
    let e : None ≡ refusal bs = grind (arith, nat_tests) in
    record { refused = e; script = refl; judged = judged bs None e; only = λ o j. judged_only bs o j ∙ sym e }
