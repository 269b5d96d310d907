-- Where a list is cut: the records before what is sought, and those that are not. A list of answers has one for each
-- record, in order: true where the record lies before what is sought.
use Rattle.std.specs.Prelude.{◌≡◌, ℕ, zero, suc, ◌+◌, ◌-◌, ◌/◌, ◌<◌, ◌≤◌, Bool, true, false, cond, List, map, length, nat_lt, slice_index_or}

abbrev pub middle : ℕ → ℕ → ℕ
middle low high = low + (high - low) / 2

-- the search between two places, in n turns at most: the answer in the middle says in which half it goes on
abbrev pub halves : ℕ → List Bool → ℕ → ℕ → ℕ
halves zero answers low high = low
halves (suc n) answers low high =
    cond (nat_lt low high)
    (cond (slice_index_or answers (middle low high) false) (halves n answers (middle low high + 1) high) (halves n answers low (middle low high)))
    low

-- where the search by halves ends, whatever the records are
abbrev pub bisect : {R : Type 0} → (R → Bool) → List R → ℕ
bisect before rs = halves (length rs) (map before rs) 0 (length rs)

-- no record that is not before stands earlier than one that is
abbrev pub Partitioned : List Bool → Type 0
Partitioned answers = (i j : ℕ) → i < j → j < length answers → slice_index_or answers j false ≡ true → slice_index_or answers i false ≡ true

-- the first n records lie before, and none from n on does
pub record Cuts (answers : List Bool) (n : ℕ) : Type 0 where
  pub within : n ≤ length answers
  pub front : (i : ℕ) → i < n → slice_index_or answers i false ≡ true
  pub rest : (i : ℕ) → n ≤ i → i < length answers → slice_index_or answers i false ≡ false
