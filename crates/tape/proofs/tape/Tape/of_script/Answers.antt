use Rattle.std.proofs.Common.{◌≡◌, Some, None, sym, refl, ◌∙◌, length, arith}
use Rattle.std.proofs.lemmas.Bool.Decides.{nat_tests}
use Rattle.tape.specs.Recordings.{refusal_over}
use Rattle.tape.specs.declared.refusal.Refusal.TheVariants.{Mark, Shebang}
use Rattle.tape.proofs.Judges.{judged_over, judged_over_only}
use Rattle.tape.proofs.tape.Tape.of_script.Goals as goal

pub returns-then-number-marks : goal.returns-then-number-marks
returns-then-number-marks c =
    let bs = c.args.script.bytes.now in
    let ms = c.args.marks.now in
    let fs = c.args.faults.now in
    let n = c.args.shebang in
    let e : Some (Mark c.lawful_count-number.result) ≡ refusal_over bs ms fs n = grind (arith, nat_tests) in
    record { refused = e; script = tt; marks = tt; faults = tt; shebang = tt; judged = judged_over bs ms fs n _ e; only = λ o j. judged_over_only bs ms fs n o j ∙ sym e }

pub returns-then-not-shebang_keeps : goal.returns-then-not-shebang_keeps
returns-then-not-shebang_keeps c =
    let bs = c.args.script.bytes.now in
    let ms = c.args.marks.now in
    let fs = c.args.faults.now in
    let n = c.args.shebang in
    let e : Some (Shebang (length ms)) ≡ refusal_over bs ms fs n = grind (arith, nat_tests) in
    record { refused = e; script = tt; marks = tt; faults = tt; shebang = tt; judged = judged_over bs ms fs n _ e; only = λ o j. judged_over_only bs ms fs n o j ∙ sym e }

pub returns : goal.returns
returns c =
    let bs = c.args.script.bytes.now in
    let ms = c.args.marks.now in
    let fs = c.args.faults.now in
    let n = c.args.shebang in
    let e : None ≡ refusal_over bs ms fs n = grind (arith, nat_tests) in
    record { refused = e; script = refl; marks = refl; faults = refl; shebang = refl; judged = judged_over bs ms fs n None e; only = λ o j. judged_over_only bs ms fs n o j ∙ sym e }
