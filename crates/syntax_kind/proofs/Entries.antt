-- From one computed test over whole tables to their laws.
use Rattle.std.proofs.Common.{◌≡◌, ℕ, ◌≤◌, Bool, true, false, cond, not, ◌&&◌, leb, List, [], ◌∷◌, Some, refl, sym, ◌∙◌, inl, inr, arith}
use Rattle.std.specs.Str.{bytes_eq}
use Rattle.std.proofs.lemmas.Slice.Eq.{bytes_eq-Decides}
use Rattle.std.proofs.lemmas.Bool.Decides.{nat_tests}
use Rattle.std.proofs.lemmas.Grind.{common_steps}
use Rattle.syntax_kind.specs.Keywords.{Entry, fits, look_up}
use Rattle.syntax_kind.specs.Named.{Among, Names, Claimed, Free}

-- an entry fits exactly what it names
names : (e : Entry) (text : List ℕ) (edition : ℕ) → fits e text edition ≡ true → Names e text edition
names e text edition h =
    let same = (bytes_eq-Decides e.text text).0 in
    (grind (arith, nat_tests), grind (arith, nat_tests), grind (arith, nat_tests))

fits_named : (e : Entry) (text : List ℕ) (edition : ℕ) → Names e text edition → fits e text edition ≡ true
fits_named e text edition n =
    let same = (bytes_eq-Decides e.text text).1 n.0 in
    let from = n.1 in
    let to = n.2 in
    grind (arith, nat_tests)

-- the entries have one text, and share an edition
abbrev overlap : Entry → Entry → Bool
overlap e f = bytes_eq e.text f.text && (leb e.first f.last && leb f.first e.last)

overlap_named : (e f : Entry) (text : List ℕ) (edition : ℕ) → Names e text edition → Names f text edition → overlap e f ≡ true
overlap_named e f text edition m n =
    let same = (bytes_eq-Decides e.text f.text).1 (m.0 ∙ sym n.0) in
    let before : e.first ≤ f.last = omega (arith, m.1, n.2) in
    let after : f.first ≤ e.last = omega (arith, n.1, m.2) in
    grind (arith, nat_tests)

-- the entry overlaps none of the table
abbrev pub clear : Entry → List Entry → Bool
clear e [] = true
clear e (x ∷ xs) = not (overlap e x) && clear e xs

-- no entry of the one table overlaps one of the other
abbrev pub disjoint : List Entry → List Entry → Bool
disjoint [] ys = true
disjoint (x ∷ xs) ys = clear x ys && disjoint xs ys

-- no two entries of the table overlap
abbrev pub apart : List Entry → Bool
apart [] = true
apart (x ∷ xs) = clear x xs && apart xs

clear_at : (e : Entry) (xs : List Entry) (f : Entry) → clear e xs ≡ true → Among f xs → overlap e f ≡ false
clear_at e [] f t m = absurd m
clear_at e (x ∷ xs) f t (inl q) = rw q (grind (arith, common_steps))
clear_at e (x ∷ xs) f t (inr m) = clear_at e xs f (grind (arith, common_steps)) m

disjoint_at : (xs ys : List Entry) (e : Entry) → disjoint xs ys ≡ true → Among e xs → clear e ys ≡ true
disjoint_at [] ys e t m = absurd m
disjoint_at (x ∷ xs) ys e t (inl q) = rw q (grind (arith, common_steps))
disjoint_at (x ∷ xs) ys e t (inr m) = disjoint_at xs ys e (grind (arith, common_steps)) m

-- a kind that is looked up is that of an entry
pub found_stands : (table : List Entry) (text : List ℕ) (edition kind : ℕ) → look_up table text edition ≡ Some kind
    → Claimed table text edition kind
found_stands [] text edition kind h = cc
found_stands (x ∷ xs) text edition kind h =
    elim (fits x text edition) as
    (λ b. cond b (Some x.kind) (look_up xs text edition) ≡ Some kind → fits x text edition ≡ b → Claimed (x ∷ xs) text edition kind) [
      | true ↦ (λ found t. (x, inl refl, names x text edition t, cc))
      | false ↦ (λ later t. let r = found_stands xs text edition kind later in (r.0, inr r.1, r.2, r.3))
    ]
    h refl

-- an entry is found by its text in each of its editions
pub standing_found : (table : List Entry) → apart table ≡ true → (text : List ℕ) (edition : ℕ) (e : Entry) → Among e table
    → Names e text edition → look_up table text edition ≡ Some e.kind
standing_found [] t text edition e m n = absurd m
standing_found (x ∷ xs) t text edition e (inl q) n =
    let here : fits x text edition ≡ true = rw (← q) (fits_named e text edition n) in
    rw q (grind (arith, common_steps))
standing_found (x ∷ xs) t text edition e (inr m) n =
    let clear = clear_at x xs e (grind (arith, common_steps)) m in
    let over = λ (h : fits x text edition ≡ true). overlap_named x e text edition (names x text edition h) n in
    let passed : fits x text edition ≡ false = grind (arith, common_steps) in
    let later = standing_found xs (grind (arith, common_steps)) text edition e m n in
    grind (arith, common_steps)

-- a text that the one table claims is free in the other
pub claimed_free : (xs ys : List Entry) → disjoint xs ys ≡ true → (text : List ℕ) (edition kind : ℕ)
    → Claimed ys text edition kind → Free xs text edition
claimed_free xs ys t text edition kind c e m n =
    let clear = clear_at e ys c.0 (disjoint_at xs ys e t m) c.1 in
    let over = overlap_named e c.0 text edition n c.2 in
    grind (arith, common_steps)
