use Rattle.std.proofs.Common.{◌-◌, length}
use Rattle.syntax_kind.specs.Editions.{edition_number}
use Rattle.converter.specs.Loans.{StillLent}
use Rattle.converter.specs.Meaning.{means}
use Rattle.converter.proofs.Running.{Sofar}
use Rattle.converter.proofs.convert.Converter.extend_all.Given as goal

abbrev pub invariant-loop-self : goal.invariant-loop-self
invariant-loop-self g l =
    let m = g.S.RawSource in
    let s = l.initial.self.source.now in
    StillLent l.initial.self l.self
    × Sofar (means m s) (edition_number l.initial.self.edition) l.initial.self.kinds.now l.initial.self.starts.now l.initial.self.errors.now l.initial.self.so_far l.self.kinds.now l.self.starts.now l.self.errors.now l.self.so_far

abbrev pub decreases-loop-self : goal.decreases-loop-self
decreases-loop-self g l = length (g.S.RawSource.script l.self.source.now) - l.self.so_far.place
