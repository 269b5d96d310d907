-- Which entries of an input are joint, said without the steps that find it.
use Rattle.std.specs.Prelude.{◌≡◌, ℕ, ◌+◌, ◌<◌, false, not, ◌⊎◌, List, [], ◌∷◌, ◌++◌, take, Decides, filter, ◌≢◌, slice_index}
use Rattle.syntax_kind.specs.Trivia.{trivial}
use Rattle.lexed_str.specs.Columns.{tokens, kind_at}
use Rattle.lexed_str.specs.Reading.{texts}
use Rattle.input.specs.Kinds.{float_number, comment, ident, whitespace}
use Rattle.input.specs.Marks.{marked}
use Rattle.input.specs.Columns.{Columns}
use Rattle.input.specs.Tokens.{kept}

-- the text ends in a dot
abbrev pub Dotted : List ℕ → Type 0
Dotted text = (front : List ℕ) × (text ≡ front ++ 46 ∷ [])

-- a fractional number whose text does not end in a dot
abbrev pub Fraction : List ℕ → List ℕ → List ℕ → ℕ → Type 0
Fraction bs ks ss i = (kind_at ks i ≡ float_number) × (Dotted (texts bs ss i (i + 1)) → ⊥)

-- the kind is white space, a comment or an identifier
abbrev pub Parting : ℕ → Type 0
Parting kind = (kind ≡ whitespace) ⊎ ((kind ≡ comment) ⊎ (kind ≡ ident))

-- neither an identifier nor a fractional number, and the next token is there and parts nothing
abbrev pub Adjoined : List ℕ → ℕ → Type 0
Adjoined ks i = (kind_at ks i ≢ float_number) × (kind_at ks i ≢ ident) × (i + 1 < tokens ks) × (Parting (kind_at ks (i + 1)) → ⊥)

-- what the entries are of a script's tokens
pub record Reads (bs ks ss : List ℕ) (c : Columns) : Type 0 where
  -- the kinds are the tokens' kinds other than trivia, in order
  pub kinds : take c.len c.kinds ≡ filter (λ kind. not (trivial kind)) (take (tokens ks) ks)
  -- an entry is joint exactly where its token is a fraction or adjoins the next
  pub joint : (n : ℕ) → n < c.len → Decides (marked c.joint n) (Fraction bs ks ss (slice_index (kept ks (tokens ks)) n) ⊎ Adjoined ks (slice_index (kept ks (tokens ks)) n))
  -- and no identifier is
  pub apart : (n : ℕ) → n < c.len → slice_index c.kinds n ≡ ident → marked c.joint n ≡ false
