use Rattle.std.proofs.Common.{◌≡◌}
use Rattle.converter.specs.Codes.{messages}
use Rattle.converter.specs.Single.{last_from, last_of}
use Rattle.converter.proofs.single.last_message.Given as goal

abbrev pub invariant-loop-fault : goal.invariant-loop-fault
invariant-loop-fault g l =
    (goal.iterator-loop-fault g).can_next l.fault-iterator
    × (goal.iterator-loop-fault g).is_finite l.fault-iterator
    × (last_from l.last (messages l.mode l.fault-iterator) ≡ last_of (messages l.mode l.fn.faults))
