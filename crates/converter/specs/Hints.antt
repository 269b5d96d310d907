-- The hint that a string is likely unterminated: one of the last five tokens is a string whose text has a parenthesis, and a
-- comment's `//` or the end of a statement's line.
use Rattle.std.specs.Prelude.{ℕ, zero, suc, ◌+◌, ◌-◌, Bool, false, ◌&&◌, ◌||◌, List, [], ◌∷◌, length, take, ◌==◌, nat_lt, slice_index}
use Rattle.std.specs.Str.{bytes_eq}
use Rattle.converter.specs.Names.{STRING}

-- one byte, or two in a row
pub data Sought : Type 0 where
  One : ℕ → Sought
  Two : ℕ → ℕ → Sought

-- the byte, or the two bytes, stand at the place i of the text that ends at `end`
abbrev pub stands : List ℕ → ℕ → Sought → ℕ → Bool
stands bs end (One a) i = nat_lt i (length bs) && slice_index bs i == a
stands bs end (Two a b) i = nat_lt (i + 1) end && (nat_lt (i + 1) (length bs) && (slice_index bs i == a && slice_index bs (i + 1) == b))

-- one of the n places from i on has it
abbrev pub any_from : (ℕ → Bool) → ℕ → ℕ → Bool
any_from test zero i = false
any_from test (suc n) i = test i || any_from test n (i + 1)

abbrev pub contains : List ℕ → ℕ → ℕ → Sought → Bool
contains bs start end what = any_from (stands bs end what) (end - start) start

-- `(`, and `//` or `;` LF
abbrev pub telling : List ℕ → ℕ → ℕ → Bool
telling bs start end = contains bs start end (One 0x28) && (contains bs start end (Two 0x2F 0x2F) || contains bs start end (Two 0x3B 0x0A))

abbrev pub suspect : List ℕ → ℕ → ℕ → ℕ → Bool
suspect bs kind start end = kind == STRING && telling bs start end

-- among the last `looks` of n tokens, the last of which ends at `end`
abbrev pub hint : List ℕ → List ℕ → List ℕ → ℕ → ℕ → ℕ → Bool
hint bs kinds starts zero n end = false
hint bs kinds starts (suc looks) zero end = false
hint bs kinds starts (suc looks) (suc n) end =
    suspect bs (slice_index kinds n) (slice_index starts n) end || hint bs kinds starts looks n (slice_index starts n)

-- as the code finds it, in the text alone: the bytes stand somewhere in it
abbrev pub somewhere : List ℕ → List ℕ → Bool
somewhere what [] = false
somewhere what (x ∷ xs) = bytes_eq (take (length what) (x ∷ xs)) what || somewhere what xs

abbrev pub tells : List ℕ → Bool
tells text = somewhere (0x28 ∷ []) text && (somewhere (0x2F ∷ 0x2F ∷ []) text || somewhere (0x3B ∷ 0x0A ∷ []) text)
