use Rattle.std.proofs.Common.{◌≡◌, ◌-◌, length}
use Rattle.script.specs.Sequences.{run_end}
use Rattle.script.proofs.sequences.run_end.Given as goal

abbrev pub invariant-loop-from : goal.invariant-loop-from
invariant-loop-from g l = run_end (g.T.Table.rows l.table) l.bytes l.at ≡ run_end (g.T.Table.rows l.table) l.bytes l.from

abbrev pub decreases-loop-from : goal.decreases-loop-from
decreases-loop-from g l = length l.bytes - l.at
