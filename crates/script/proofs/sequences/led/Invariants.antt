use Rattle.std.proofs.Common.{◌≡◌, ◌+◌, ◌-◌, replicate}
use Rattle.script.specs.Sequences.{stands}
use Rattle.script.specs.Utf8Table.{continuing}
use Rattle.script.proofs.sequences.led.Given as goal

-- what is left to test decides
abbrev pub invariant-loop-i : goal.invariant-loop-i
invariant-loop-i g l = stands (replicate g.row.MORE continuing) l.bytes (l.next + 1) ≡ stands (replicate (g.row.MORE - l.i) continuing) l.bytes (l.next + 1 + l.i)
