-- The grammar of comments, from the chapter "Comments" of the Rust Reference, over bytes. A byte from 128 up is part
-- of a character that no rule names, so a row of characters is a row of bytes.
--
-- Where the productions alone leave a choice, the relation says what a lexer reads:
-- inside a block comment `/*` always opens a nested one, and `*/` always closes the innermost;
-- `////` begins no outer doc comment, since those have exactly three slashes.
-- Two differences from the Reference: a line comment ends before its LF, which is not part of it; and CR may stand in
-- every comment, while the Reference allows none in doc comments.
use Rattle.std.specs.Prelude.{◌≡◌, ℕ, Bool, true, false, ◌&&◌, ◌||◌, ◌≢◌, List, [], ◌∷◌, ◌++◌, ◌==◌, slice_index}
use Rattle.std.specs.List.{AllByRecursion}

-- the characters that the grammar names
abbrev pub slash : ℕ
slash = 47

abbrev pub star : ℕ
star = 42

abbrev pub bang : ℕ
bang = 33

abbrev pub lf : ℕ
lf = 10

-- the six forms
pub data Form : Type 0 where
  line_comment : Form
  inner_line_doc : Form
  outer_line_doc : Form
  block_comment : Form
  inner_block_doc : Form
  outer_block_doc : Form

-- ~LF*: no line ends in the text
abbrev pub InLine : List ℕ → Type 0
InLine xs = AllByRecursion (λ x. x ≢ lf) xs

-- the text begins with the characters a and b
abbrev pub begins : ℕ → ℕ → List ℕ → Bool
begins a b xs = slice_index xs 0 == a && slice_index xs 1 == b

-- the first character of the text neither closes a block comment nor opens one
abbrev pub Single : List ℕ → Type 0
Single xs = (begins star slash xs || begins slash star xs) ≡ false

-- BLOCK_COMMENT_OR_DOC
abbrev pub is_block : Form → Bool
is_block line_comment = false
is_block inner_line_doc = false
is_block outer_line_doc = false
is_block block_comment = true
is_block inner_block_doc = true
is_block outer_block_doc = true

mutual
  -- the text is a comment of the form, from its first character to its last
  pub data Comment : Form → List ℕ → Type 0 where
    -- LINE_COMMENT: `//` alone; `//` and a character other than `/`, `!` and LF; or `////`
    bare : Comment line_comment (slash ∷ slash ∷ [])
    line : (x : ℕ) (xs : List ℕ) → x ≢ slash → x ≢ bang → InLine (x ∷ xs) → Comment line_comment (slash ∷ slash ∷ x ∷ xs)
    slashes : (xs : List ℕ) → InLine xs → Comment line_comment (slash ∷ slash ∷ slash ∷ slash ∷ xs)
    -- INNER_LINE_DOC: `//!`
    inner_line : (xs : List ℕ) → InLine xs → Comment inner_line_doc (slash ∷ slash ∷ bang ∷ xs)
    -- OUTER_LINE_DOC: `///`, and no fourth `/`
    outer_line : (xs : List ℕ) → slice_index xs 0 ≢ slash → InLine xs → Comment outer_line_doc (slash ∷ slash ∷ slash ∷ xs)
    -- BLOCK_COMMENT: `/**/`; `/***/`; `/*` and a character other than `*` and `!`, or `**`, or a nested comment
    empty : Comment block_comment (slash ∷ star ∷ star ∷ slash ∷ [])
    empty_star : Comment block_comment (slash ∷ star ∷ star ∷ star ∷ slash ∷ [])
    block : (x : ℕ) (xs : List ℕ) → x ≢ star → x ≢ bang → Single (x ∷ xs) → Rest xs → Comment block_comment (slash ∷ star ∷ x ∷ xs)
    stars : (xs : List ℕ) → Single (star ∷ xs) → Rest xs → Comment block_comment (slash ∷ star ∷ star ∷ star ∷ xs)
    around : (f : Form) (c xs : List ℕ) → is_block f ≡ true → Comment f c → Rest xs → Comment block_comment (slash ∷ star ∷ (c ++ xs))
    -- INNER_BLOCK_DOC: `/*!`
    inner_block : (xs : List ℕ) → Rest xs → Comment inner_block_doc (slash ∷ star ∷ bang ∷ xs)
    -- OUTER_BLOCK_DOC: `/**` and a character other than `*` and `/`, so no nested comment comes first
    outer_block : (x : ℕ) (xs : List ℕ) → x ≢ star → x ≢ slash → Rest xs → Comment outer_block_doc (slash ∷ star ∷ star ∷ x ∷ xs)

  -- the rest of a block comment, up to its end: single characters and nested comments in a row, then `*/`
  pub data Rest : List ℕ → Type 0 where
    close : Rest (star ∷ slash ∷ [])
    single : (x : ℕ) (xs : List ℕ) → Single (x ∷ xs) → Rest xs → Rest (x ∷ xs)
    nested : (f : Form) (c xs : List ℕ) → is_block f ≡ true → Comment f c → Rest xs → Rest (c ++ xs)
