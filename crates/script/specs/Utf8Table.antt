-- The Unicode Standard, section 3.9: Table 3-7, the well-formed UTF-8 byte sequences, and definition D92, by which
-- text is UTF-8 where it is such sequences in a row.
use Rattle.std.specs.Prelude.{ℕ, ◌≤◌, List, [], ◌∷◌, length, take}
use Rattle.script.specs.Sequences.{Range, Row, ◌⋯◌, only, Sequences}

-- a byte that continues a sequence
abbrev pub continuing : Range
continuing = 0x80 ⋯ 0xBF

-- the table, row by row, from U+0000 to U+10FFFF
abbrev pub utf8 : List Row
utf8 =
    ((0x00 ⋯ 0x7F) ∷ [])
    ∷ ((0xC2 ⋯ 0xDF) ∷ continuing ∷ [])
    ∷ (only 0xE0 ∷ (0xA0 ⋯ 0xBF) ∷ continuing ∷ [])
    ∷ ((0xE1 ⋯ 0xEC) ∷ continuing ∷ continuing ∷ [])
    ∷ (only 0xED ∷ (0x80 ⋯ 0x9F) ∷ continuing ∷ [])
    ∷ ((0xEE ⋯ 0xEF) ∷ continuing ∷ continuing ∷ [])
    ∷ (only 0xF0 ∷ (0x90 ⋯ 0xBF) ∷ continuing ∷ continuing ∷ [])
    ∷ ((0xF1 ⋯ 0xF3) ∷ continuing ∷ continuing ∷ continuing ∷ [])
    ∷ (only 0xF4 ∷ (0x80 ⋯ 0x8F) ∷ continuing ∷ continuing ∷ [])
    ∷ []

abbrev pub WellFormed : List ℕ → Type 0
WellFormed bs = Sequences utf8 bs

-- the first n bytes are the longest well-formed front, so the first ill-formed byte stands there if any does
pub record Longest (bs : List ℕ) (n : ℕ) : Type 0 where
  pub within : n ≤ length bs
  pub front : WellFormed (take n bs)
  pub longest : (m : ℕ) → m ≤ length bs → WellFormed (take m bs) → m ≤ n
