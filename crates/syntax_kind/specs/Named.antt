-- What an answer about a text and an edition means.
use Rattle.std.specs.Prelude.{◌≡◌, ℕ, ◌<◌, ◌≤◌, ◌⊎◌, List, [], ◌∷◌, Some, None, Ok, Err}
use Rattle.syntax_kind.specs.declared.Refusal.TheVariants.{Edition, Kind}
use Rattle.syntax_kind.specs.Keywords.{Entry, Answer}

-- the entry stands in the table
abbrev pub Among : Entry → List Entry → Type 0
Among e [] = ⊥
Among e (x ∷ xs) = (e ≡ x) ⊎ Among e xs

-- the entry has exactly this text, and its editions include this one
abbrev pub Names : Entry → List ℕ → ℕ → Type 0
Names e text edition = (e.text ≡ text) × (e.first ≤ edition) × (edition ≤ e.last)

-- some entry of the table names the text in the edition, and has the kind
abbrev pub Claimed : List Entry → List ℕ → ℕ → ℕ → Type 0
Claimed table text edition kind = (e : Entry) × Among e table × Names e text edition × (e.kind ≡ kind)

-- no entry of the table names the text in the edition
abbrev pub Free : List Entry → List ℕ → ℕ → Type 0
Free table text edition = (e : Entry) → Among e table → Names e text edition → ⊥

-- the answer is right: a kind that the table gives to the text, none where it gives none,
-- and a refusal exactly where there is no such edition
abbrev pub Named : List Entry → List ℕ → ℕ → Answer → Type 0
Named table text edition (Ok (Some kind)) = (edition ≤ 3) × Claimed table text edition kind
Named table text edition (Ok None) = (edition ≤ 3) × Free table text edition
Named table text edition (Err Edition) = 3 < edition
Named table text edition (Err Kind) = ⊥
