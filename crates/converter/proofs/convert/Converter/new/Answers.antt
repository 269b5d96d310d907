use Rattle.std.proofs.Common.{arith}
use Rattle.script.proofs.Bounds.{boundary_start}
use Rattle.converter.proofs.convert.Converter.new.Goals as goal

pub invariant_of-result-clause-reached : goal.invariant_of-result-clause-reached
invariant_of-result-clause-reached g c =
    let m = g.S.RawSource in
    let s = c.args.source.now in
    record { boundary_there = boundary_start (m.script s) (g.met.S.RawSource.laws.admitted s); within = omega arith; tokens_few = omega arith; errors_few = omega arith }
