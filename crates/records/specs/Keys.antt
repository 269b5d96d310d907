-- Records in the order of their numbers, and the first with a number.
use Rattle.std.specs.Prelude.{ℕ, suc, ◌<◌, ◌≤◌, cond, ◌&&◌, List, [], ◌∷◌, map, length, Some, None, Option, ◌==◌, nat_lt, slice_index}
use Rattle.records.specs.Cuts.{bisect}

-- no number is above a later one
abbrev pub Ascending : List ℕ → Type 0
Ascending keys = (i j : ℕ) → i ≤ j → j < length keys → slice_index keys i ≤ slice_index keys j

abbrev pub later : Option ℕ → Option ℕ
later None = None
later (Some i) = Some (suc i)

-- the place of the first number of the list that is n
abbrev pub first : ℕ → List ℕ → Option ℕ
first n [] = None
first n (k ∷ keys) = cond (k == n) (Some 0) (later (first n keys))

-- the place, where n stands there
abbrev pub standing : ℕ → List ℕ → ℕ → Option ℕ
standing n keys i = cond (nat_lt i (length keys) && slice_index keys i == n) (Some i) None

-- what the search finds, whatever the order: the place where it ends, if n stands there
abbrev pub searched : {R : Type 0} → (R → ℕ) → ℕ → List R → Option ℕ
searched key n rs = standing n (map key rs) (bisect (λ r. nat_lt (key r) n) rs)
