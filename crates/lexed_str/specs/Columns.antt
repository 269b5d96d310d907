-- Token columns that fit a script: a kind and a start for each token, one entry more for the end, and error records.
use Rattle.std.specs.Prelude.{◌≡◌, ℕ, ◌+◌, ◌-◌, ◌<◌, ◌≤◌, true, List, length, ◌≢◌, slice_index, slice_index_or}
use Rattle.script.specs.Places.{boundary}
use Rattle.lexed_str.specs.declared.error.LexError.{LexError}

-- the kind of the end's entry
abbrev pub eof : ℕ
eof = 1

-- the greatest kind
abbrev pub last_kind : ℕ
last_kind = 332

-- the number of tokens: every entry but the end's
abbrev pub tokens : List ℕ → ℕ
tokens ks = length ks - 1

-- the kind of an entry
abbrev pub kind_at : List ℕ → ℕ → ℕ
kind_at ks i = slice_index ks i

-- the place where an entry's text starts
abbrev pub start_at : List ℕ → ℕ → ℕ
start_at ss i = slice_index ss i

-- the number of the token that an error record is about
abbrev pub token_at : List LexError → ℕ → ℕ
token_at es k = (slice_index_or es k (record { token = 0; code = 0 })).token

pub record Columns (bs ks ss : List ℕ) (es : List LexError) : Type 0 where
  -- each entry has a kind and a start
  pub same : length ss ≡ length ks
  pub known : (i : ℕ) → i < length ks → kind_at ks i ≤ last_kind
  -- the last entry, and only that, is the end's
  pub inner : (i : ℕ) → i < tokens ks → kind_at ks i ≢ eof
  pub closes : kind_at ks (tokens ks) ≡ eof
  -- the starts rise from the script's first byte to its end, by whole characters
  pub begins : start_at ss 0 ≡ 0
  pub rises : (i : ℕ) → i < tokens ks → start_at ss i < start_at ss (i + 1)
  pub whole : (i : ℕ) → i < tokens ks → boundary bs (start_at ss i) ≡ true
  pub ends : start_at ss (tokens ks) ≡ length bs
  -- each error names a token, and the tokens named never go back
  pub names : (k : ℕ) → k < length es → token_at es k < tokens ks
  pub ascends : (j k : ℕ) → j ≤ k → k < length es → token_at es j ≤ token_at es k
