use Rattle.std.proofs.Common.{subst}
use Rattle.input.specs.Columns.{columns_of}
use Rattle.input.specs.Pushes.{LastMarked}
use Rattle.input.proofs.Kept.{grown_marked}
use Rattle.input.proofs.build.push_token.Goals as goal

pub returns-then-is_joint-clause-token : goal.returns-then-is_joint-clause-token
returns-then-is_joint-clause-token c =
    let put = columns_of c.put.new.self in
    let is = c.mark_last.ensures.columns in
    let grown = grown_marked (columns_of c.args.input.now) put _ _ _ c.put.ensures.grown (subst (LastMarked put) is c.mark_last.ensures.marked) in
    rw (is, ← c.is_trivial.ensures, c.if-is_trivial.false, ← c.is_joint.ensures, c.if-is_joint.true, ← c.contextual_kind.ensures) grown
