use Rattle.std.proofs.Common.{rules}
use Rattle.script.proofs.Bounds.{boundary_decides}
use Rattle.script.proofs.script.Script.is_boundary.Goals as goal

pub returns-in-Some-clause-characters : goal.returns-in-Some-clause-characters
returns-in-Some-clause-characters c = boundary_decides c.args.self.now.bytes.now c.args.place _ c.args.self.now.fits (search rules)

pub returns-in-None-clause-characters : goal.returns-in-None-clause-characters
returns-in-None-clause-characters c = boundary_decides c.args.self.now.bytes.now c.args.place _ c.args.self.now.fits (search rules)
