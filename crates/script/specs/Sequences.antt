-- Byte sequences that a table describes: each row of the table has a range for each byte of its sequences.
use Rattle.std.specs.Prelude.{◌≡◌, ℕ, zero, suc, ◌+◌, ◌<◌, ◌≤◌, Bool, true, cond, ◌&&◌, List, [], ◌∷◌, length, ◌≢◌, nat_le, nat_lt, slice_index, slice_index_or}
use Rattle.std.specs.List.{between, flat_map, AllByRecursion}

-- the bytes from `least` to `most`, both included
pub record Range : Type 0 where
  pub least : ℕ
  pub most : ℕ

infixl 60 ◌⋯◌
abbrev pub ◌⋯◌ : ℕ → ℕ → Range
a ⋯ b = record { least = a; most = b }

abbrev pub only : ℕ → Range
only a = a ⋯ a

abbrev pub Row : Type 0
Row = List Range

-- a byte of the range stands at the place p
abbrev pub holds : Range → List ℕ → ℕ → Bool
holds r bs p = nat_lt p (length bs) && (nat_le r.least (slice_index bs p) && nat_le (slice_index bs p) r.most)

-- bytes of these ranges stand from the place p on
abbrev pub stands : Row → List ℕ → ℕ → Bool
stands [] bs p = true
stands (r ∷ rs) bs p = holds r bs p && stands rs bs (p + 1)

-- the length of the table's sequence at p; 0 where none begins
abbrev pub sequence : List Row → List ℕ → ℕ → ℕ
sequence [] bs p = 0
sequence (r ∷ t) bs p = cond (stands r bs p) (length r) (sequence t bs p)

-- the place after n sequences, one after the other, from p on, or after the last of them where there are fewer
abbrev pub after : List Row → ℕ → List ℕ → ℕ → ℕ
after t zero bs p = p
after t (suc n) bs p = after t n bs (p + sequence t bs p)

-- the place after the last of the sequences that follow one another from p on
abbrev pub run_end : List Row → List ℕ → ℕ → ℕ
run_end t bs p = after t (length bs) bs p

-- the bytes are one sequence: some row of the table describes them, all of them
abbrev pub Sequence : List Row → List ℕ → Type 0
Sequence t q = (k : ℕ) × (k < length t) × (stands (slice_index_or t k []) q 0 ≡ true) × (length q ≡ length (slice_index_or t k []))

-- the bytes are sequences in a row
abbrev pub Sequences : List Row → List ℕ → Type 0
Sequences t bs = (qs : List (List ℕ)) × AllByRecursion (Sequence t) qs × (flat_map (λ q. q) qs ≡ bs)

-- the n bytes at p are one sequence of the table; n is 0 exactly where no sequence of it stands there
pub record Stands (t : List Row) (bs : List ℕ) (p n : ℕ) : Type 0 where
  pub one : 0 < n → Sequence t (between p (p + n) bs)
  pub none : n ≡ 0 → (q : List ℕ) → Sequence t q → between p (p + length q) bs ≢ q

-- the sequences that follow one another from p on, all of them, end at q
pub record Run (t : List Row) (bs : List ℕ) (p q : ℕ) : Type 0 where
  pub low : p ≤ q
  pub high : q ≤ length bs
  pub there : Sequences t (between p q bs)
  pub all : (r : ℕ) → q < r → r ≤ length bs → Sequences t (between p r bs) → ⊥
