-- Columns that hold the tokens of a script, by the scanner.
use Rattle.std.specs.Prelude.{ℕ, List, []}
use Rattle.scanner.specs.Tokens.{token_at}
use Rattle.converter.specs.Meaning.{Meaning, meaning}
use Rattle.lexed_str.specs.declared.error.LexError.{LexError}
use Rattle.owned_columns.specs.Holds.{Holds as HoldsOf}

-- what the scanner says of a script: it knows no faults in tokens, and leaves the shebang to the frontmatter's rules
abbrev pub scanned : List ℕ → Meaning
scanned bs = meaning bs (token_at bs) (λ p. []) 0

-- the columns hold the tokens and errors of the script, in the edition 2024 (3), and may be read
abbrev pub Holds : List ℕ → List ℕ → List ℕ → List LexError → Type 0
Holds bs ks ss es = HoldsOf (scanned bs) 3 ks ss es
