-- Columns that hold the tokens of a script.
use Rattle.std.specs.Prelude.{ℕ, List}
use Rattle.converter.specs.Lexes.{Lexes}
use Rattle.converter.specs.Meaning.{Meaning}
use Rattle.lexed_str.specs.Columns.{Columns, tokens}
use Rattle.lexed_str.specs.declared.error.LexError.{LexError}

-- the columns hold the tokens and errors of what a source says of a script, in the edition, and may be read
pub record Holds (m : Meaning) (edition : ℕ) (ks ss : List ℕ) (es : List LexError) : Type 0 where
  pub law : Lexes m edition (tokens ks) ks ss es
  pub fit : Columns m.script ks ss es
