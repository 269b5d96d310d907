use Rattle.std.proofs.Common.{◌∙◌, rules}
use Rattle.lexed_str.proofs.Judges.{bytes_only}
use Rattle.lexed_str.proofs.lexed.LexedStr.offer.Goals as goal

pub returns-in_err-script-clause-only : goal.returns-in_err-script-clause-only
returns-in_err-script-clause-only c o j =
    bytes_only c.args.bytes.now c.args.kinds.now c.args.starts.now c.args.errors.now o j ∙ search rules

pub returns-clause-only : goal.returns-clause-only
returns-clause-only c o j =
    bytes_only c.args.bytes.now c.args.kinds.now c.args.starts.now c.args.errors.now o j ∙ search rules
