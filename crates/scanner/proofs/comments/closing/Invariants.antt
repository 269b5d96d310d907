use Rattle.std.proofs.Common.{length}
use Rattle.scanner.proofs.Scan.{Scan}
use Rattle.scanner.proofs.comments.closing.Given as goal

abbrev pub invariant-loop-rest : goal.invariant-loop-rest
invariant-loop-rest l = Scan l.text l.rest l.depth

abbrev pub decreases-loop-rest : goal.decreases-loop-rest
decreases-loop-rest l = length l.rest
