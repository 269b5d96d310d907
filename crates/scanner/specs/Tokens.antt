-- The token at each place of a script.
use Rattle.std.specs.Prelude.{ℕ, ◌+◌, ◌-◌, Bool, false, cond, not, ◌&&◌, ◌||◌, List, drop, Some, None, Option, ◌==◌, nat_lt, slice_index}
use Rattle.script.specs.Sequences.{sequence, run_end}
use Rattle.script.specs.Utf8Table.{utf8}
use Rattle.script.specs.WhiteTable.{white}
use Rattle.raw.specs.declared.kinds.LiteralKind.TheVariants.{Int, Float}
use Rattle.raw.specs.declared.kinds.RawKind.{RawKind}
use Rattle.raw.specs.declared.kinds.RawKind.TheVariants.{Whitespace, Ident, Literal}
use Rattle.raw.specs.declared.kinds.RawToken.{RawToken}
use Rattle.scanner.specs.Classes.{letter, digit, word, run_to, mark_kind}
use Rattle.scanner.specs.Comments.{comment}

-- the token from one place to another
abbrev pub span_of : RawKind → ℕ → ℕ → RawToken
span_of k p q = record { kind = k; len = q - p }

-- the text begins with the point of a float: a `.` that precedes neither `.`, a letter nor `_`
abbrev pub point : List ℕ → Bool
point xs = slice_index xs 0 == 46 && not (slice_index xs 1 == 46 || letter (slice_index xs 1))

-- a number whose first digits stand from p to q
abbrev pub number_to : List ℕ → ℕ → ℕ → RawToken
number_to bs p q = cond (point (drop q bs)) (span_of (Literal (Float false)) p (run_to digit bs (q + 1))) (span_of (Literal (Int false)) p q)

-- one character: a mark with its kind, or an unknown one
abbrev pub character_at : List ℕ → ℕ → RawToken
character_at bs p = span_of (mark_kind (slice_index bs p)) p (p + sequence utf8 bs p)

-- a word, a number, a mark or an unknown character
abbrev pub word_at : List ℕ → ℕ → RawToken
word_at bs p =
    cond (letter (slice_index bs p)) (span_of Ident p (run_to word bs p))
    (cond (digit (slice_index bs p)) (number_to bs p (run_to digit bs p))
    (character_at bs p))

-- the comment, if there is one, else the other token
abbrev pub or : Option RawToken → RawToken → RawToken
or (Some t) u = t
or None u = u

-- white space, a comment, or another token
unfoldable pub token_at : List ℕ → ℕ → RawToken
token_at bs p = cond (nat_lt p (run_end white bs p)) (span_of Whitespace p (run_end white bs p)) (or (comment (drop p bs)) (word_at bs p))
