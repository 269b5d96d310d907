-- Bytes in lower-case hexadecimal.
use Rattle.std.specs.Prelude.{ℕ, ◌+◌, ◌-◌, ◌*◌, Bool, cond, ◌&&◌, List, [], ◌∷◌, length, Some, None, Option, ◌==◌, nat_le, slice_index}

-- '0' to '9' are 48 to 57, 'a' to 'f' are 97 to 102
abbrev pub digit : ℕ → Option ℕ
digit b = cond (nat_le 48 b && nat_le b 57) (Some (b - 48)) (cond (nat_le 97 b && nat_le b 102) (Some (b - 87)) None)

-- the byte of two digits
abbrev pub pair : Option ℕ → Option ℕ → Option ℕ
pair None low = None
pair (Some h) None = None
pair (Some h) (Some l) = Some (h * 16 + l)

-- the byte of the text of one
abbrev pub pair_byte : List ℕ → Option ℕ
pair_byte [] = None
pair_byte (h ∷ []) = None
pair_byte (h ∷ l ∷ []) = pair (digit h) (digit l)
pair_byte (h ∷ l ∷ x ∷ rest) = None

-- a byte before others
abbrev pub before : Option ℕ → Option (List ℕ) → Option (List ℕ)
before None bs = None
before (Some b) None = None
before (Some b) (Some bs) = Some (b ∷ bs)

-- the bytes of two digits each
abbrev pub pairs : List ℕ → Option (List ℕ)
pairs [] = Some []
pairs (h ∷ []) = None
pairs (h ∷ l ∷ rest) = before (pair (digit h) (digit l)) (pairs rest)

-- a dash alone, 45, is the text of no bytes
abbrev pub is_dash : List ℕ → Bool
is_dash hex = length hex == 1 && slice_index hex 0 == 45

-- the bytes that a text spells
abbrev pub hex_bytes : List ℕ → Option (List ℕ)
hex_bytes hex = cond (length hex == 0) None (cond (is_dash hex) (Some []) (pairs hex))
