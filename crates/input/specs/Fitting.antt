-- When entries stand in columns.
use Rattle.std.specs.Prelude.{ℕ, Bool, ◌&&◌, List, length, nat_le}
use Rattle.input.specs.Marks.{words, clear}

-- each column has a place for each of `len` entries, joint a word for each 64 of them, and no mark is set past the last
abbrev pub fitting : List ℕ → List ℕ → List ℕ → List ℕ → ℕ → Bool
fitting kinds joint contextual editions len =
    nat_le len (length kinds)
    && (nat_le len (length contextual) && (nat_le len (length editions) && (nat_le (words len) (length joint) && clear joint len)))
