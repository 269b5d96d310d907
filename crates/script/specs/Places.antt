-- Places of a script and the characters that begin there.
use Rattle.std.specs.Prelude.{◌≡◌, ℕ, ◌+◌, ◌≤◌, Bool, cond, ◌&&◌, ◌||◌, List, length, take, Ok, Err, Result, ◌==◌, nat_le, nat_lt, slice_index}
use Rattle.std.specs.List.{between}
use Rattle.script.specs.declared.refusal.NoCharacter.{NoCharacter}
use Rattle.script.specs.Sequences.{sequence, Sequence}
use Rattle.script.specs.Utf8Table.{utf8, WellFormed}

-- a boundary: the end, or a place whose byte continues no character
abbrev pub boundary : List ℕ → ℕ → Bool
boundary bs p = cond (nat_lt p (length bs)) (nat_lt (slice_index bs p) 0x80 || nat_le 0xC0 (slice_index bs p)) (p == length bs)

-- the length of the character at a boundary before the end
abbrev pub char_len : List ℕ → ℕ → Result ℕ NoCharacter
char_len bs p = cond (nat_lt p (length bs) && boundary bs p) (Ok (sequence utf8 bs p)) (Err (record {}))

-- the bytes before the place are whole characters
abbrev pub Whole : List ℕ → ℕ → Type 0
Whole bs p = (p ≤ length bs) × WellFormed (take p bs)

-- an answer n: the n bytes from the place on are one character; a refusal: none begins there
abbrev pub Spans : List ℕ → ℕ → Result ℕ NoCharacter → Type 0
Spans bs p (Ok n) = Sequence utf8 (between p (p + n) bs)
Spans bs p (Err none) = Whole bs p → p ≡ length bs
