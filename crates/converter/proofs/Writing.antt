-- Errors, written one by one.
use Rattle.std.proofs.Common.{◌≡◌, ℕ, ◌+◌, ◌≤◌, List, [], length, sym, ap, ◌∙◌}
use Rattle.converter.specs.Columns.{put}
use Rattle.converter.proofs.Puts.{put_none}

-- all of xs are to be written from `at` on; up to `end` they are, and those that are left have room
pub record Writing {X : Type 0} (at : ℕ) (xs before : List X) (end : ℕ) (left now : List X) : Type 0 where
  pub same : put end left now ≡ put at xs before
  pub count : end + length left ≡ at + length xs
  pub room : end + length left ≤ length now

pub all_written : {X : Type 0} (at : ℕ) (xs before : List X) (end : ℕ) (left now : List X) → left ≡ [] → Writing at xs before end left now → now ≡ put at xs before
all_written at xs before end left now none h = sym (put_none end now) ∙ ap (λ l. put end l now) (sym none) ∙ h.same
