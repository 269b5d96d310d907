use Rattle.std.proofs.Common.{◌≡◌, ◌-◌, length}
use Rattle.frontmatter.specs.Searches.{first}
use Rattle.frontmatter.specs.Lines.{closes_at}
use Rattle.frontmatter.proofs.reader.Reader.trial.Given as goal

abbrev pub invariant-loop-trial : goal.invariant-loop-trial
invariant-loop-trial l =
    first (closes_at l.bytes l.dashes) l.trial.at.now (length l.bytes)
    ≡ first (closes_at l.bytes l.dashes) l.began (length l.bytes)

abbrev pub decreases-loop-trial : goal.decreases-loop-trial
decreases-loop-trial l = length l.bytes - l.trial.at.now
