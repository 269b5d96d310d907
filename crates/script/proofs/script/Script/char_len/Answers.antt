use Rattle.std.proofs.Common.{rules, Ok}
use Rattle.script.proofs.Bounds.{spans}
use Rattle.script.proofs.script.Script.char_len.Goals as goal

pub returns-clause-character : goal.returns-clause-character
returns-clause-character c = spans c.args.self.now.bytes.now c.args.place (Ok c.sequence_len.result) c.args.self.now.fits (search rules)
