-- The kinds that an input treats apart, by their numbers.
use Rattle.std.specs.Prelude.{ℕ}

-- the end of the input
abbrev pub eof : ℕ
eof = 1

-- a fractional number
abbrev pub float_number : ℕ
float_number = 147

-- a comment that is no doc comment
abbrev pub comment : ℕ
comment = 150

-- an identifier
abbrev pub ident : ℕ
ident = 153

-- white space
abbrev pub whitespace : ℕ
whitespace = 159

-- the last of all kinds
abbrev pub last_kind : ℕ
last_kind = 332
