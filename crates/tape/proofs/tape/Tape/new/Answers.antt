use Rattle.std.proofs.Common.{sym, ◌∙◌}
use Rattle.std.proofs.lemmas.Result.{err_from_is_err_and}
use Rattle.tape.proofs.Judges.{judged, judged_only, over_none, over_script}
use Rattle.tape.proofs.tape.Tape.new.Goals as goal

pub returns-in_err-script : goal.returns-in_err-script
returns-in_err-script c =
    let bs = c.args.bytes.now in
    let ms = c.args.marks.now in
    let fs = c.args.faults.now in
    let n = c.args.shebang in
    let p = err_from_is_err_and c.from_residual.result c.from_residual.ensures.1 in
    let e = over_none bs ms fs n _ c.in_err-script.ensures.refused in
    rw (p.1, p.2) (record { refused = e; script = tt; marks = tt; faults = tt; shebang = tt; judged = judged bs ms fs n _ e; only = λ o j. judged_only bs ms fs n o j ∙ sym e })

pub returns : goal.returns
returns c =
    let bs = c.args.bytes.now in
    let ms = c.args.marks.now in
    let fs = c.args.faults.now in
    let n = c.args.shebang in
    let same = c.in_ok-script.ensures.script in
    let e = over_script bs ms fs n _ c.in_ok-script.ensures.refused (rw same at c.of_script.ensures.refused) in
    record {
      refused = e;
      script = rw same at c.of_script.ensures.script;
      marks = c.of_script.ensures.marks;
      faults = c.of_script.ensures.faults;
      shebang = c.of_script.ensures.shebang;
      judged = judged bs ms fs n _ e;
      only = λ o j. judged_only bs ms fs n o j ∙ sym e;
    }
