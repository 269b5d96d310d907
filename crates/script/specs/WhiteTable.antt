-- White space: the eleven characters with the Unicode property Pattern_White_Space.
use Rattle.std.specs.Prelude.{ℕ, List, [], ◌∷◌, map}
use Rattle.std.proofs.Math.Utf8.{encode}
use Rattle.script.specs.Sequences.{Row, only}

-- tab, line feed, vertical tab, form feed, carriage return, space, next line, left-to-right mark, right-to-left mark,
-- line separator, paragraph separator
abbrev pub white_characters : List ℕ
white_characters = 0x09 ∷ 0x0A ∷ 0x0B ∷ 0x0C ∷ 0x0D ∷ 0x20 ∷ 0x85 ∷ 0x200E ∷ 0x200F ∷ 0x2028 ∷ 0x2029 ∷ []

-- a row for each of them: exactly its bytes in UTF-8
abbrev pub white : List Row
white = map (λ c. map only (encode c)) white_characters
