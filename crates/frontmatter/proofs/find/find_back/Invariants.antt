use Rattle.std.proofs.Common.{◌≡◌, ℕ, Bool}
use Rattle.frontmatter.specs.Searches.{past_last}
use Rattle.frontmatter.specs.Lines.{at}
use Rattle.frontmatter.proofs.find.find_back.Given as goal

abbrev pub invariant-loop-place : goal.invariant-loop-place
invariant-loop-place g l = (t : ℕ → Bool) → ((b : ℕ) (r : Bool) → goal.F-post g l.passes b r → r ≡ t b) → past_last (at t l.bytes) l.from l.place ≡ past_last (at t l.bytes) l.from l.end
