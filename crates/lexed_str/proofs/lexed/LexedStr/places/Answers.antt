use Rattle.std.proofs.Common.{arith}
use Rattle.lexed_str.proofs.Accepted.{accepted_columns}
use Rattle.lexed_str.proofs.Starts.{start_lt, start_before}
use Rattle.lexed_str.proofs.lexed.LexedStr.places.Goals as goal

pub returns-clause-rises : goal.returns-clause-rises
returns-clause-rises c =
    let s = c.args.self.now in
    let columns = accepted_columns s.script.bytes.now s.kinds.now s.starts.now s.errors.now s.fits in
    omega (arith, start_lt _ _ _ _ columns c.args.from c.args.to c.requires.0 c.requires.1)

pub returns-clause-within : goal.returns-clause-within
returns-clause-within c =
    let s = c.args.self.now in
    let columns = accepted_columns s.script.bytes.now s.kinds.now s.starts.now s.errors.now s.fits in
    omega (arith, start_before _ _ _ _ columns c.args.to c.requires.1)
