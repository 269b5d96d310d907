-- What lexing answers, and what the columns hold then.
use Rattle.std.specs.Prelude.{ℕ, List, [], ◌∷◌, ◌++◌, length, Some, None, Ok, Err, Option, Result}
use Rattle.converter.specs.declared.lexing.Counts.{Counts}
use Rattle.converter.specs.declared.refusal.Refusal.{Refusal}
use Rattle.converter.specs.Columns.{over}
use Rattle.converter.specs.Lexing.{Lexed}
use Rattle.converter.specs.Names.{EOF}

-- refused, or so many tokens and errors
abbrev pub outcome : Option Refusal → Lexed → Result Counts Refusal
outcome (Some why) l = Err why
outcome None l = Ok (record { tokens = length l.kinds; errors = length l.errors })

-- a refused call leaves the column as it was, else its front is written over
abbrev pub written : {A : Type 0} → Option Refusal → List A → List A → List A
written (Some why) xs column = column
written None xs column = over xs column

-- the kinds and the starts, with the end's entry
abbrev pub kinds_of : Lexed → List ℕ
kinds_of l = l.kinds ++ EOF ∷ []

abbrev pub starts_of : Lexed → List ℕ
starts_of l = l.starts ++ l.place ∷ []
