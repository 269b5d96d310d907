-- The fence that closes a frontmatter, by trials: first with as many dashes as the opening one, then with fewer.
use Rattle.std.specs.Prelude.{ℕ, zero, suc, cond, List, length, Some, None, Option, nat_lt}
use Rattle.frontmatter.specs.declared.reader.Close.{Close}
use Rattle.frontmatter.specs.Lines.{close_from}

-- the first LF from p on with n dashes after it
abbrev pub trial_of : List ℕ → ℕ → ℕ → Option ℕ
trial_of s n p = cond (nat_lt (close_from s n p) (length s)) (Some (close_from s n p)) None

-- the same with n dashes, else with one fewer, and so on down to one
abbrev pub close_of : List ℕ → ℕ → ℕ → Option Close
close_of s p zero = None
close_of s p (suc n) =
    cond (nat_lt (close_from s (suc n) p) (length s)) (Some (record { at = close_from s (suc n) p; dashes = suc n })) (close_of s p n)
