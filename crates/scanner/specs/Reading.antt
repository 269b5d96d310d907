-- What an answer says of a text, by the grammar.
use Rattle.std.specs.Prelude.{◌≡◌, ℕ, ◌≤◌, true, false, List, [], ◌∷◌, length, take, drop, Some, None, Option}
use Rattle.raw.specs.declared.kinds.DocStyle.{DocStyle}
use Rattle.raw.specs.declared.kinds.DocStyle.TheVariants.{Inner, Outer}
use Rattle.raw.specs.declared.kinds.RawKind.{RawKind}
use Rattle.raw.specs.declared.kinds.RawKind.TheVariants.{LineComment, BlockComment}
use Rattle.raw.specs.declared.kinds.RawToken.{RawToken}
use Rattle.scanner.specs.Grammar.{Form, line_comment, inner_line_doc, outer_line_doc, block_comment, inner_block_doc, outer_block_doc, Comment, lf, slash, star, begins}

-- the raw kind of each form
abbrev pub kind_of : Form → RawKind
kind_of line_comment = LineComment None
kind_of inner_line_doc = LineComment (Some Inner)
kind_of outer_line_doc = LineComment (Some Outer)
kind_of block_comment = BlockComment None true
kind_of inner_block_doc = BlockComment (Some Inner) true
kind_of outer_block_doc = BlockComment (Some Outer) true

-- the token of a comment with its form and its length
abbrev pub token_of : Form → ℕ → RawToken
token_of f n = record { kind = kind_of f; len = n }

-- the line ends before the text: an LF comes first, or nothing does
abbrev pub LineEnds : List ℕ → Type 0
LineEnds [] = Unit {0}
LineEnds (x ∷ xs) = x ≡ lf

-- what has to follow a comment of the form
abbrev pub Follows : Form → List ℕ → Type 0
Follows line_comment xs = LineEnds xs
Follows inner_line_doc xs = LineEnds xs
Follows outer_line_doc xs = LineEnds xs
Follows block_comment xs = Unit {0}
Follows inner_block_doc xs = Unit {0}
Follows outer_block_doc xs = Unit {0}

-- the first n bytes of the text are a comment of the form; behind a line comment the line ends
pub record Stands (f : Form) (n : ℕ) (xs : List ℕ) : Type 0 where
  pub within : n ≤ length xs
  pub whole : Comment f (take n xs)
  pub follows : Follows f (drop n xs)

-- no front of the text is a comment
abbrev pub NoComment : List ℕ → Type 0
NoComment xs = (f : Form) (n : ℕ) → Stands f n xs → ⊥

-- an answer: the comment that stands there; a block comment that is never closed, up to the end; or none
pub data Reading (xs : List ℕ) (r : Option RawToken) : Type 0 where
  stands : (f : Form) (n : ℕ) → Stands f n xs → r ≡ Some (token_of f n) → Reading xs r
  unclosed : (d : Option DocStyle) → begins slash star xs ≡ true → NoComment xs → r ≡ Some (record { kind = BlockComment d false; len = length xs }) → Reading xs r
  none : begins slash star xs ≡ false → NoComment xs → r ≡ None → Reading xs r
