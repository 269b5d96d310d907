use Rattle.std.proofs.Common.{◌≡◌, ℕ, Bool}
use Rattle.frontmatter.specs.Searches.{first}
use Rattle.frontmatter.specs.Lines.{at}
use Rattle.frontmatter.proofs.find.find.Given as goal

abbrev pub invariant-loop-place : goal.invariant-loop-place
invariant-loop-place g l = (t : ℕ → Bool) → ((b : ℕ) (r : Bool) → goal.F-post g l.passes b r → r ≡ t b) → first (at t l.bytes) l.place l.end ≡ first (at t l.bytes) l.from l.end
