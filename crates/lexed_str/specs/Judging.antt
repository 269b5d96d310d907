-- What an answer to an offer says, by positions in the columns.
use Rattle.std.specs.Prelude.{ℕ, ◌<◌, ◌≤◌, List, length, Some, None, Option}
use Rattle.script.specs.Admission.{Judged as ScriptJudged}
use Rattle.script.specs.declared.refusal.Refusal.TheVariants as script
use Rattle.lexed_str.specs.declared.error.LexError.{LexError}
use Rattle.lexed_str.specs.declared.refusal.Refusal.{Refusal}
use Rattle.lexed_str.specs.declared.refusal.Refusal.TheVariants as why
use Rattle.lexed_str.specs.Columns.{Columns, last_kind, kind_at}

-- no kind is past the last one
abbrev pub Known : List ℕ → Type 0
Known ks = (i : ℕ) → i < length ks → kind_at ks i ≤ last_kind

-- some kind is past the last one
abbrev pub Unknown : List ℕ → Type 0
Unknown ks = (i : ℕ) × (i < length ks) × (last_kind < kind_at ks i)

-- an answer to the offer of a script's columns
abbrev pub Judged : List ℕ → List ℕ → List ℕ → List LexError → Option Refusal → Type 0
Judged bs ks ss es None = Columns bs ks ss es
Judged bs ks ss es (Some why.Kind) = Unknown ks
Judged bs ks ss es (Some why.Columns) = Known ks × (Columns bs ks ss es → ⊥)
Judged bs ks ss es (Some why.TooLong) = ⊥
Judged bs ks ss es (Some (why.NotUtf8 at)) = ⊥
Judged bs ks ss es (Some why.NoToken) = ⊥

-- an answer to the offer of bytes and their columns: the bytes are judged first
abbrev pub JudgedBytes : List ℕ → List ℕ → List ℕ → List LexError → Option Refusal → Type 0
JudgedBytes bs ks ss es None = ScriptJudged bs None × Judged bs ks ss es None
JudgedBytes bs ks ss es (Some why.Kind) = ScriptJudged bs None × Judged bs ks ss es (Some why.Kind)
JudgedBytes bs ks ss es (Some why.Columns) = ScriptJudged bs None × Judged bs ks ss es (Some why.Columns)
JudgedBytes bs ks ss es (Some why.TooLong) = ScriptJudged bs (Some script.TooLong)
JudgedBytes bs ks ss es (Some (why.NotUtf8 at)) = ScriptJudged bs (Some (script.NotUtf8 at))
JudgedBytes bs ks ss es (Some why.NoToken) = ⊥
