-- Lines, dashes and blanks of a script.
use Rattle.std.specs.Prelude.{ℕ, ◌+◌, ◌-◌, min, Bool, cond, not, ◌&&◌, ◌||◌, List, length, ◌==◌, nat_le, nat_lt, slice_index}
use Rattle.script.specs.Sequences.{run_end}
use Rattle.script.specs.WhiteTable.{white}
use Rattle.frontmatter.specs.Searches.{first, past_last}

abbrev pub line_feed : ℕ → Bool
line_feed b = b == 0x0A

abbrev pub not_dash : ℕ → Bool
not_dash b = not (b == 0x2D)

-- blanks are spaces and tabs
abbrev pub not_blank : ℕ → Bool
not_blank b = not (b == 0x20 || b == 0x09)

-- a byte that passes the test stands at the place
abbrev pub at : (ℕ → Bool) → List ℕ → ℕ → Bool
at t s p = t (slice_index s p)

-- where the line that goes on at p ends: at its LF, or at the script's end
abbrev pub line_end : List ℕ → ℕ → ℕ
line_end s p = first (at line_feed s) p (length s)

-- where the next line begins; the script's end where there is none
abbrev pub next_line : List ℕ → ℕ → ℕ
next_line s p = min (line_end s p + 1) (length s)

-- where the dashes that stand at p end
abbrev pub dash_end : List ℕ → ℕ → ℕ
dash_end s p = first (at not_dash s) p (length s)

-- where the blank lines at p end: after the last LF of the white space there, or at p
abbrev pub blank_end : List ℕ → ℕ → ℕ
blank_end s p = past_last (at line_feed s) p (run_end white s p)

-- an LF at p with n dashes or more after it
abbrev pub closes_at : List ℕ → ℕ → ℕ → Bool
closes_at s n p = at line_feed s p && nat_le (p + 1 + n) (dash_end s (p + 1))

-- the first such LF from p on; the script's end where there is none
abbrev pub close_from : List ℕ → ℕ → ℕ → ℕ
close_from s n p = first (closes_at s n) p (length s)

-- the end of the text from p on that ends at e, without one final CR
abbrev pub without_cr : List ℕ → ℕ → ℕ → ℕ
without_cr s p e = cond (nat_lt p e && slice_index s (e - 1) == 0x0D) (e - 1) e
