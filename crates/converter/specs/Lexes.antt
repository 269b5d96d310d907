-- The law of lexing, by positions: the head's tokens come first; each later token is what the source gives at its start under
-- the edition's cut, and ends where the next one starts; the last ends with the script, where the end's entry stands; and
-- the errors are, token by token, what is said of each.
use Rattle.std.specs.Prelude.{◌≡◌, ℕ, zero, suc, ◌+◌, ◌<◌, ◌≤◌, true, cond, List, [], ◌∷◌, ◌++◌, map, length, take, Ok, Err, Result, nat_lt, slice_index}
use Rattle.raw.specs.Answers.{begins}
use Rattle.lexed_str.specs.declared.error.LexError.{LexError}
use Rattle.lexed_str.specs.Columns.{Columns}
use Rattle.converter.specs.declared.lexing.Counts.{Counts}
use Rattle.converter.specs.declared.refusal.Refusal.{Refusal}
use Rattle.converter.specs.Lexing.{lex_error, kind_at, end_at, codes_at, head_of}
use Rattle.converter.specs.Meaning.{Meaning}
use Rattle.converter.specs.Names.{EOF}

-- token i is what the source gives at its start, and the next one starts at its end
pub record Given (m : Meaning) (edition : ℕ) (ks ss : List ℕ) (i : ℕ) : Type 0 where
  pub there : begins m.script (slice_index ss i) ≡ true
  pub kind : slice_index ks i ≡ kind_at m edition (slice_index ss i)
  pub next : slice_index ss (i + 1) ≡ end_at m edition (slice_index ss i)

-- what is said of token i; nothing of the h tokens of the head
abbrev pub errors_at : Meaning → ℕ → ℕ → List ℕ → List ℕ → ℕ → List LexError
errors_at m edition h ks ss i = cond (nat_lt i h) [] (map (lex_error i) (codes_at m edition ks ss i (slice_index ss i)))

-- what is said of the first n tokens
abbrev pub errors_up_to : Meaning → ℕ → ℕ → List ℕ → List ℕ → ℕ → List LexError
errors_up_to m edition h ks ss zero = []
errors_up_to m edition h ks ss (suc n) = errors_up_to m edition h ks ss n ++ errors_at m edition h ks ss n

-- the kinds ks and starts ss of n tokens and the end, and the errors es
pub record Lexes (m : Meaning) (edition n : ℕ) (ks ss : List ℕ) (es : List LexError) : Type 0 where
  pub kinds_long : length ks ≡ n + 1
  pub starts_long : length ss ≡ n + 1
  pub head_kinds : take (length (head_of m).kinds) ks ≡ (head_of m).kinds
  pub head_starts : take (length (head_of m).kinds + 1) ss ≡ (head_of m).starts ++ (head_of m).place ∷ []
  pub head_within : length (head_of m).kinds ≤ n
  pub each : (i : ℕ) → length (head_of m).kinds ≤ i → i < n → Given m edition ks ss i
  pub end_kind : slice_index ks n ≡ EOF
  pub end_start : slice_index ss n ≡ length m.script
  pub errors : es ≡ errors_up_to m edition (length (head_of m).kinds) ks ss n

-- what an answer and the columns say: the fronts of the columns keep the law
abbrev pub Keeps : Meaning → ℕ → Result Counts Refusal → List ℕ → List ℕ → List LexError → Type 0
Keeps m edition (Ok c) ks ss es = Lexes m edition c.tokens (take (c.tokens + 1) ks) (take (c.tokens + 1) ss) (take c.errors es)
Keeps m edition (Err why) ks ss es = Unit {0}

-- no other columns keep it
abbrev pub Only : Meaning → ℕ → Result Counts Refusal → List ℕ → List ℕ → List LexError → Type 0
Only m edition (Ok c) ks ss es =
    (n : ℕ) (ks' ss' : List ℕ) (es' : List LexError) → Lexes m edition n ks' ss' es'
    → (n ≡ c.tokens) × (ks' ≡ take (c.tokens + 1) ks) × (ss' ≡ take (c.tokens + 1) ss) × (es' ≡ take c.errors es)
Only m edition (Err why) ks ss es = Unit {0}

-- the fronts of the columns may be offered for reading
abbrev pub Readable : Meaning → Result Counts Refusal → List ℕ → List ℕ → List LexError → Type 0
Readable m (Ok c) ks ss es = Columns m.script (take (c.tokens + 1) ks) (take (c.tokens + 1) ss) (take c.errors es)
Readable m (Err why) ks ss es = Unit {0}
