use Rattle.std.proofs.Common.{◌≡◌, ℕ, ◌+◌, ◌<◌, ◌≤◌, true}
use Rattle.frontmatter.specs.Lines.{line_feed, at, dash_end}
use Rattle.frontmatter.proofs.reader.most_dashes.Given as goal

abbrev pub invariant-loop-place : goal.invariant-loop-place
invariant-loop-place l = (k : ℕ) → l.from ≤ k → k < l.place → at line_feed l.bytes k ≡ true → dash_end l.bytes (k + 1) ≤ k + 1 + l.most
