use Rattle.std.proofs.Common.{◌≡◌, ◌+◌, drop}
use Rattle.tape.specs.Rules.{lawful_from, lawful_count}
use Rattle.tape.proofs.rules.lawful_count.Given as goal

abbrev pub invariant-loop-number : goal.invariant-loop-number
invariant-loop-number l = l.number + lawful_from l.script.bytes.now l.column l.least (drop l.number l.marks) ≡ lawful_count l.script.bytes.now l.column l.marks
