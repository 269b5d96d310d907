use Rattle.std.proofs.Common.{◌-◌, arith}
use Rattle.input.specs.Columns.{columns_of}
use Rattle.input.proofs.Kept.{joined_fits, joined_marks}
use Rattle.input.proofs.columns.Input.mark_last.Goals as goal

pub invariant_of-self : goal.invariant_of-self
invariant_of-self c =
    let i = columns_of c.args.self.now in
    record { fits = rw c.mark.ensures (joined_fits i (i.len - 1) (omega arith) c.args.self.now.fits) }

pub returns-clause-marked : goal.returns-clause-marked
returns-clause-marked c =
    let i = columns_of c.args.self.now in
    rw c.mark.ensures (joined_marks i (i.len - 1) (omega arith) c.args.self.now.fits)
