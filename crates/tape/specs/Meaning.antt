-- What a tape says at a place: what the first mark there says, or else that one character is unknown.
use Rattle.std.specs.Prelude.{ℕ, cond, List, [], ◌∷◌, Some, None, Option, ◌==◌}
use Rattle.std.specs.List.{between}
use Rattle.script.specs.Sequences.{sequence}
use Rattle.script.specs.Utf8Table.{utf8}
use Rattle.raw.specs.declared.kinds.RawToken.{RawToken}
use Rattle.raw.specs.declared.kinds.RawKind.TheVariants.{Unknown}
use Rattle.raw.specs.declared.kinds.EscapeError.{EscapeError}
use Rattle.tape.specs.declared.mark.Mark.{Mark}
use Rattle.tape.specs.Rules.{token_of}

-- the first mark at the place
abbrev pub mark_at : ℕ → List Mark → Option Mark
mark_at p [] = None
mark_at p (m ∷ ms) = cond (m.place == p) (Some m) (mark_at p ms)

-- the token of that mark, or the character as a token of no known kind
abbrev pub token_by : List ℕ → ℕ → Option Mark → RawToken
token_by bs p None = record { kind = Unknown; len = sequence utf8 bs p }
token_by bs p (Some m) = token_of m

-- its part of the fault column; a character of no known kind has no faults
abbrev pub faults_by : List EscapeError → Option Mark → List EscapeError
faults_by fs None = []
faults_by fs (Some m) = between m.faults_from m.faults_to fs

abbrev pub token_at : List ℕ → List Mark → ℕ → RawToken
token_at bs ms p = token_by bs p (mark_at p ms)

abbrev pub faults_at : List Mark → List EscapeError → ℕ → List EscapeError
faults_at ms fs p = faults_by fs (mark_at p ms)
