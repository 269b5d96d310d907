-- The comment that a text begins with, by one pass over the text.
use Rattle.std.specs.Prelude.{ℕ, zero, suc, Bool, true, false, cond, not, ◌&&◌, ◌||◌, List, [], ◌∷◌, length, drop, Some, None, Option, ◌==◌, slice_index}
use Rattle.std.specs.List.{prefix_len}
use Rattle.raw.specs.declared.kinds.DocStyle.{DocStyle}
use Rattle.raw.specs.declared.kinds.DocStyle.TheVariants.{Inner, Outer}
use Rattle.raw.specs.declared.kinds.RawKind.TheVariants.{LineComment, BlockComment}
use Rattle.raw.specs.declared.kinds.RawToken.{RawToken}
use Rattle.scanner.specs.Grammar.{slash, star, bang, lf, begins}

-- one byte further
abbrev pub further : Option ℕ → Option ℕ
further None = None
further (Some n) = Some (suc n)

-- the length up to the `*/` that closes the outermost of d + 1 open block comments, with it; none where one stays open
abbrev pub closing : ℕ → List ℕ → Option ℕ
closing d [] = None
closing d (x ∷ []) = None
closing zero (x ∷ y ∷ xs) =
    cond (x == star && y == slash) (Some 2)
    (cond (x == slash && y == star) (further (further (closing 1 xs)))
    (further (closing zero (y ∷ xs))))
closing (suc d) (x ∷ y ∷ xs) =
    cond (x == star && y == slash) (further (further (closing d xs)))
    (cond (x == slash && y == star) (further (further (closing (suc (suc d)) xs)))
    (further (closing (suc d) (y ∷ xs))))

-- the style of a line comment: inner for `//!`, outer for `///` without a fourth `/`
abbrev pub line_style : List ℕ → Option DocStyle
line_style xs = cond (slice_index xs 2 == bang) (Some Inner) (cond (slice_index xs 2 == slash && not (slice_index xs 3 == slash)) (Some Outer) None)

-- the style of a block comment: inner for `/*!`, outer for `/**` followed neither by `*` nor by `/`
abbrev pub block_style : List ℕ → Option DocStyle
block_style xs = cond (slice_index xs 2 == bang) (Some Inner) (cond (slice_index xs 2 == star && not (slice_index xs 3 == star || slice_index xs 3 == slash)) (Some Outer) None)

-- a byte that does not end a line
abbrev pub in_line : ℕ → Bool
in_line x = not (x == lf)

-- the line comment: up to the next LF, or the end
abbrev pub line_token : List ℕ → RawToken
line_token xs = record { kind = LineComment (line_style xs); len = prefix_len in_line xs }

-- a block comment that is closed n bytes after its opening; an open one runs to the end
abbrev pub block_by : List ℕ → Option ℕ → RawToken
block_by xs (Some n) = record { kind = BlockComment (block_style xs) true; len = suc (suc n) }
block_by xs None = record { kind = BlockComment (block_style xs) false; len = length xs }

abbrev pub block_token : List ℕ → RawToken
block_token xs = block_by xs (closing 0 (drop 2 xs))

-- the comment that the text begins with, if it does
abbrev pub comment : List ℕ → Option RawToken
comment xs = cond (begins slash slash xs) (Some (line_token xs)) (cond (begins slash star xs) (Some (block_token xs)) None)
