use Rattle.std.proofs.Common.{◌∙◌, None, rules}
use Rattle.lexed_str.proofs.Judges.{judged, judged_only}
use Rattle.lexed_str.proofs.lexed.LexedStr.of_script.Goals as goal

pub returns-in_err-check-clause-judged : goal.returns-in_err-check-clause-judged
returns-in_err-check-clause-judged c =
    judged c.args.script.bytes.now c.args.kinds.now c.args.starts.now c.args.errors.now _ (search rules)

pub returns-in_err-check-clause-only : goal.returns-in_err-check-clause-only
returns-in_err-check-clause-only c o j =
    judged_only c.args.script.bytes.now c.args.kinds.now c.args.starts.now c.args.errors.now o j ∙ search rules

pub returns-clause-judged : goal.returns-clause-judged
returns-clause-judged c =
    judged c.args.script.bytes.now c.args.kinds.now c.args.starts.now c.args.errors.now None (search rules)

pub returns-clause-only : goal.returns-clause-only
returns-clause-only c o j =
    judged_only c.args.script.bytes.now c.args.kinds.now c.args.starts.now c.args.errors.now o j ∙ search rules
