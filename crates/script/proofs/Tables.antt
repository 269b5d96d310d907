-- A table whose rows lie apart is fair: one test that computes, and the rule from it. Assumes nothing.
use Rattle.std.proofs.Common.{◌≡◌, ℕ, zero, suc, ◌+◌, ◌<◌, Bool, true, false, ◌&&◌, ◌||◌, ltb, List, [], ◌∷◌, length, get_or, sym, refl, ap, ◌∙◌, ⊎_elim, arith}
use lib.Utf8.{encode}
use Rattle.std.proofs.lemmas.Bool.{and_parts, or_cases, ltb-true, cases_Bool, cond-false, cond-true}
use Rattle.std.proofs.lemmas.Bool.Decides.{nat_tests}
use Rattle.script.specs.Sequences.{Range, Row, only, holds, stands, sequence}
use Rattle.script.specs.Utf8Table.{utf8}
use Rattle.script.specs.WhiteTable.{white}
use Rattle.script.proofs.Joins.{Fair}

-- no byte lies in both ranges
abbrev pub disjoint : Range → Range → Bool
disjoint a b = ltb a.most b.least || ltb b.most a.least

-- at some place the rows have disjoint ranges
abbrev apart : Row → Row → Bool
apart [] s = false
apart (a ∷ r) [] = false
apart (a ∷ r) (b ∷ s) = disjoint a b || apart r s

abbrev apart_from : Row → List Row → Bool
apart_from r [] = true
apart_from r (s ∷ t) = apart r s && apart_from r t

-- each row has a byte, and is apart from those below it
abbrev distinct : List Row → Bool
distinct [] = true
distinct (r ∷ t) = (ltb 0 (length r) && apart_from r t) && distinct t

pub disjoint_holds : (a b : Range) (bs : List ℕ) (p : ℕ) → disjoint a b ≡ true → holds a bs p ≡ true → holds b bs p ≡ true → ⊥
disjoint_holds a b bs p d e f = let z : ◌≡◌ {A = ℕ} 0 1 = grind (arith, nat_tests) in omega arith

apart_stands : (r s : Row) (bs : List ℕ) (p : ℕ) → apart r s ≡ true → stands r bs p ≡ true → stands s bs p ≡ true → ⊥
apart_stands [] s bs p d e f = let z : ◌≡◌ {A = ℕ} 0 1 = cc in omega arith
apart_stands (a ∷ r) [] bs p d e f = let z : ◌≡◌ {A = ℕ} 0 1 = cc in omega arith
apart_stands (a ∷ r) (b ∷ s) bs p d e f =
    let x = and_parts (holds a bs p) (stands r bs (p + 1)) e in
    let y = and_parts (holds b bs p) (stands s bs (p + 1)) f in
    ⊎_elim (λ h. disjoint_holds a b bs p h x.0 y.0) (λ h. apart_stands r s bs (p + 1) h x.1 y.1) (or_cases (disjoint a b) (apart r s) d)

apart_at : (r : Row) (t : List Row) (k : ℕ) → k < length t → apart_from r t ≡ true → apart r (get_or t k []) ≡ true
apart_at r [] k l e = absurd (omega arith)
apart_at r (s ∷ t) zero l e = (and_parts (apart r s) (apart_from r t) e).0
apart_at r (s ∷ t) (suc k) l e = apart_at r t k (omega arith) (and_parts (apart r s) (apart_from r t) e).1

some : (t : List Row) → distinct t ≡ true → (k : ℕ) → k < length t → 0 < length (get_or t k [])
some [] d k l = absurd (omega arith)
some (r ∷ t) d zero l = ltb-true 0 (length r) (and_parts (ltb 0 (length r)) (apart_from r t) (and_parts (ltb 0 (length r) && apart_from r t) (distinct t) d).0).0
some (r ∷ t) d (suc k) l = some t (and_parts (ltb 0 (length r) && apart_from r t) (distinct t) d).1 k (omega arith)

found : (t : List Row) → distinct t ≡ true → (k : ℕ) → k < length t → (bs : List ℕ) (p : ℕ) → stands (get_or t k []) bs p ≡ true → sequence t bs p ≡ length (get_or t k [])
found [] d k l bs p e = absurd (omega arith)
found (r ∷ t) d zero l bs p e = cond-true (stands r bs p) (length r) (sequence t bs p) e
found (r ∷ t) d (suc k) l bs p e =
    let parts = and_parts (ltb 0 (length r) && apart_from r t) (distinct t) d in
    let far = apart_at r t k (omega arith) (and_parts (ltb 0 (length r)) (apart_from r t) parts.0).1 in
    ⊎_elim
    (λ (h : stands r bs p ≡ true). absurd (apart_stands r (get_or t k []) bs p far h e))
    (λ (h : stands r bs p ≡ false). cond-false (stands r bs p) (length r) (sequence t bs p) h ∙ found t parts.1 k (omega arith) bs p e)
    (cases_Bool (stands r bs p))

pub fair : (t : List Row) → distinct t ≡ true → Fair t
fair t d = record { some = some t d; found = found t d }

pub utf8_fair : Fair utf8
utf8_fair = fair utf8 refl

pub white_fair : Fair white
unfolding encode
white_fair = fair white refl

-- the rows of the white-space characters, written out
abbrev pub white_rows : List Row
white_rows =
    (only 0x09 ∷ []) ∷ (only 0x0A ∷ []) ∷ (only 0x0B ∷ []) ∷ (only 0x0C ∷ []) ∷ (only 0x0D ∷ []) ∷ (only 0x20 ∷ [])
    ∷ (only 0xC2 ∷ only 0x85 ∷ [])
    ∷ (only 0xE2 ∷ only 0x80 ∷ only 0x8E ∷ []) ∷ (only 0xE2 ∷ only 0x80 ∷ only 0x8F ∷ [])
    ∷ (only 0xE2 ∷ only 0x80 ∷ only 0xA8 ∷ []) ∷ (only 0xE2 ∷ only 0x80 ∷ only 0xA9 ∷ []) ∷ []

white_rows_lem : white ≡ white_rows
unfolding encode
white_rows_lem = refl

pub white_written : (bs : List ℕ) (p n : ℕ) → n ≡ sequence white_rows bs p → n ≡ sequence white bs p
white_written bs p n e = e ∙ ap (λ t. sequence t bs p) (sym white_rows_lem)
