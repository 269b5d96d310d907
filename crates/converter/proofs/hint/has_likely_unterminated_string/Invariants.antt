use Rattle.std.proofs.Common.{◌≡◌, ◌-◌}
use Rattle.converter.specs.Hints.{hint}
use Rattle.converter.proofs.hint.has_likely_unterminated_string.Given as goal

abbrev pub invariant-loop-i : goal.invariant-loop-i
invariant-loop-i l = hint l.script l.kinds l.starts (l.i - (l.fn.count - 5)) l.i l.end ≡ hint l.script l.kinds l.starts 5 l.fn.count l.fn.end
