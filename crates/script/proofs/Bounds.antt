-- Boundaries and characters of UTF-8: a place is a boundary exactly where whole characters stand before it. Assumes nothing.
use Rattle.std.proofs.Common.{◌≡◌, ℕ, zero, suc, ◌+◌, ◌-◌, ◌<◌, ◌≤◌, Bool, true, false, cond, ◌&&◌, eqb, ltb, leb, List, [], ◌∷◌, ◌++◌, length, get_or, take, Ok, Err, Result, Decides, sym, refl, ap, ◌∙◌, subst, ⊎_elim, arith, length-append}
use lib.Seq.{take-length, take-append-add}
use Rattle.std.specs.List.{flat_map, AllByRecursion, between}
use Rattle.std.proofs.lemmas.List.{get_or-append-add, get_or_append_left, flat_map_more, take_more}
use Rattle.std.proofs.ByRecursion.{All-push}
use Rattle.std.proofs.lemmas.Bool.{and_parts, and_from, both_ways, eqb-true, le-leb, leb-true, ltb-true, lt-ltb, cases_lt, cases_eq}
use Rattle.std.proofs.lemmas.Bool.Decides.{nat_tests, Decides-at}
use Rattle.script.specs.Sequences.{Range, Row, holds, stands, sequence, run_end, Sequence, Sequences}
use Rattle.script.specs.Utf8Table.{continuing, utf8, WellFormed}
use Rattle.script.specs.Admission.{most, ill_formed, admits}
use Rattle.script.specs.declared.refusal.NoCharacter.{NoCharacter}
use Rattle.script.specs.Places.{boundary, char_len, Whole, Spans}
use Rattle.script.proofs.Runs.{run_stop}
use Rattle.script.proofs.Joins.{run_le, run_longest, run_past, found_row, found_sequence}
use Rattle.script.proofs.Tables.{disjoint, disjoint_holds, utf8_fair}
use Rattle.script.proofs.Judges.{front, longest}

-- every byte of a row but the first continues a sequence, and the first does not
abbrev inside : Row → Bool
inside [] = true
inside (x ∷ r) = (leb 0x80 x.least && leb x.most 0xBF) && inside r

abbrev led : Row → Bool
led [] = false
led (x ∷ r) = disjoint x continuing && inside r

abbrev all_led : List Row → Bool
all_led [] = true
all_led (r ∷ t) = led r && all_led t

led_at : (t : List Row) (k : ℕ) → k < length t → all_led t ≡ true → led (get_or t k []) ≡ true
led_at [] k l e = absurd (omega arith)
led_at (r ∷ t) zero l e = (and_parts (led r) (all_led t) e).0
led_at (r ∷ t) (suc k) l e = led_at t k (omega arith) (and_parts (led r) (all_led t) e).1

first_leads : (r : Row) (bs : List ℕ) (p : ℕ) → led r ≡ true → stands r bs p ≡ true → holds continuing bs p ≡ true → ⊥
first_leads [] bs p d e h = let z : ◌≡◌ {A = ℕ} 0 1 = cc in omega arith
first_leads (x ∷ r) bs p d e h = disjoint_holds x continuing bs p (and_parts (disjoint x continuing) (inside r) d).0 (and_parts (holds x bs p) (stands r bs (p + 1)) e).0 h

inner_continues : (x : Range) (bs : List ℕ) (p : ℕ) → (leb 0x80 x.least && leb x.most 0xBF) ≡ true → holds x bs p ≡ true → holds continuing bs p ≡ true
inner_continues x bs p d e = grind (arith, nat_tests)

rest_continues : (r : Row) (bs : List ℕ) (p i : ℕ) → i < length r → inside r ≡ true → stands r bs p ≡ true → holds continuing bs (p + i) ≡ true
rest_continues [] bs p i l d e = absurd (omega arith)
rest_continues (x ∷ r) bs p zero l d e =
    let here : p ≡ p + 0 = omega arith in
    subst (λ k. holds continuing bs k ≡ true) here
    (inner_continues x bs p (and_parts (leb 0x80 x.least && leb x.most 0xBF) (inside r) d).0 (and_parts (holds x bs p) (stands r bs (p + 1)) e).0)
rest_continues (x ∷ r) bs p (suc i) l d e =
    let next : p + 1 + i ≡ p + suc i = omega arith in
    subst (λ k. holds continuing bs k ≡ true) next
    (rest_continues r bs (p + 1) i (omega arith) (and_parts (leb 0x80 x.least && leb x.most 0xBF) (inside r) d).1 (and_parts (holds x bs p) (stands r bs (p + 1)) e).1)

tail_continues : (r : Row) (q : List ℕ) (i : ℕ) → 0 < i → i < length r → led r ≡ true → stands r q 0 ≡ true → holds continuing q i ≡ true
tail_continues [] q i l h d e = absurd (omega arith)
tail_continues (x ∷ r) q i l h d e =
    let place : 0 + 1 + (i - 1) ≡ i = omega arith in
    subst (λ k. holds continuing q k ≡ true) place
    (rest_continues r q (0 + 1) (i - 1) (omega arith) (and_parts (disjoint x continuing) (inside r) d).1 (and_parts (holds x q 0) (stands r q (0 + 1)) e).1)

-- where the bytes before a place are whole characters, one begins there, unless it is the end
whole_run : (bs : List ℕ) → WellFormed bs → run_end utf8 bs 0 ≡ length bs
whole_run bs w =
    let all = run_longest utf8 utf8_fair bs 0 (length bs) (omega arith) (omega arith) (subst (Sequences utf8) (sym (front bs (length bs) ∙ take-length bs)) w) in
    omega (arith, run_le utf8 bs 0 (omega arith))

pub begins_there : (bs : List ℕ) (p : ℕ) → WellFormed bs → p < length bs → WellFormed (take p bs) → 0 < sequence utf8 bs p
begins_there bs p w l before =
    let past = run_past utf8 utf8_fair bs 0 p (omega arith) (omega arith) (subst (Sequences utf8) (sym (front bs p)) before) in
    let whole = whole_run bs w in
    ⊎_elim
    (λ (some : 0 < sequence utf8 bs p). some)
    (λ (none : sequence utf8 bs p ≤ 0). absurd (omega (arith, run_stop utf8 bs p (omega arith))))
    (cases_lt 0 (sequence utf8 bs p))

boundary_there : (bs : List ℕ) (p : ℕ) → p < length bs → 0 < sequence utf8 bs p → boundary bs p ≡ true
boundary_there bs p l some =
    let k = found_row utf8 bs p some in
    let no = first_leads (get_or utf8 k.0 []) bs p (led_at utf8 k.0 k.1 refl) k.2 in
    grind (arith, nat_tests)

boundary_past : (q rest : List ℕ) (m : ℕ) → boundary (q ++ rest) (length q + m) ≡ boundary rest m
boundary_past q rest m =
    let byte = get_or-append-add q rest m 0 in
    let long = length-append q rest in
    grind (arith, nat_tests)

boundary_inside : (q rest : List ℕ) (p : ℕ) → p < length q → holds continuing q p ≡ true → boundary (q ++ rest) p ≡ true → ⊥
boundary_inside q rest p l h b =
    let byte = get_or_append_left q rest 0 p l in
    let long = length-append q rest in
    let z : ◌≡◌ {A = ℕ} 0 1 = grind (arith, nat_tests) in
    omega arith

one_more : (q rest : List ℕ) (m : ℕ) → Sequence utf8 q → WellFormed (take m rest) → WellFormed (take (length q + m) (q ++ rest))
one_more q rest m s w = (q ∷ w.0, (s, w.1), ap (λ z. q ++ z) w.2 ∙ sym (take-append-add q rest m))

cut : (qs : List (List ℕ)) → AllByRecursion (Sequence utf8) qs → (p : ℕ) → p ≤ length (flat_map (λ q. q) qs) → boundary (flat_map (λ q. q) qs) p ≡ true → WellFormed (take p (flat_map (λ q. q) qs))
cut [] all p l b = let none : p ≡ 0 = omega arith in subst (λ k. WellFormed (take k [])) (sym none) ([], tt, refl)
cut (q ∷ qs) all p l b =
    let rest = flat_map (λ (z : List ℕ). z) qs in
    ⊎_elim
    (λ (short : p < length q).
    ⊎_elim
    (λ (none : p ≡ 0). subst (λ k. WellFormed (take k (q ++ rest))) (sym none) ([], tt, refl))
    (λ (some : p ≡ 0 → ⊥).
    let k = all.0 in
    let row = get_or utf8 k.0 [] in
    absurd (boundary_inside q rest p short (tail_continues row q p (omega (arith, some)) (omega (arith, k.3)) (led_at utf8 k.0 k.1 refl) k.2) b))
    (cases_eq p 0))
    (λ (long : length q ≤ p).
    let m = p - length q in
    let to : length q + m ≡ p = omega arith in
    let there : boundary rest m ≡ true = sym (boundary_past q rest m) ∙ subst (λ k. boundary (q ++ rest) k ≡ true) (sym to) b in
    subst (λ k. WellFormed (take k (q ++ rest))) to (one_more q rest m all.0 (cut qs all.1 m (omega (arith, length-append q rest)) there)))
    (cases_lt p (length q))

pub boundary_cuts : (bs : List ℕ) (p : ℕ) → WellFormed bs → p ≤ length bs → boundary bs p ≡ true → WellFormed (take p bs)
boundary_cuts bs p w l b =
    subst (λ z. WellFormed (take p z)) w.2 (cut w.0 w.1 p (subst (λ z. p ≤ length z) (sym w.2) l) (subst (λ z. boundary z p ≡ true) (sym w.2) b))

-- a script's length fits 32 bits
pub admitted_short : (bs : List ℕ) → admits bs ≡ true → length bs ≤ most
admitted_short bs e = leb-true (length bs) most (and_parts (leb (length bs) most) (eqb (ill_formed bs) (length bs)) e).0

pub admitted_well : (bs : List ℕ) → admits bs ≡ true → WellFormed bs
admitted_well bs e =
    let whole = eqb-true (ill_formed bs) (length bs) (and_parts (leb (length bs) most) (eqb (ill_formed bs) (length bs)) e).1 in
    subst WellFormed (ap (λ n. take n bs) whole ∙ take-length bs) (longest bs).front

boundary_within : (bs : List ℕ) (p : ℕ) → boundary bs p ≡ true → p ≤ length bs
boundary_within bs p e = grind (arith, nat_tests)

pub boundary_end : (bs : List ℕ) (p : ℕ) → p ≡ length bs → boundary bs p ≡ true
boundary_end bs p e = grind (arith, nat_tests)

pub boundaries : (bs : List ℕ) (p : ℕ) → admits bs ≡ true → Decides (boundary bs p) ((p ≤ length bs) × WellFormed (take p bs))
boundaries bs p a =
    let w = admitted_well bs a in (
      (λ b. (boundary_within bs p b, boundary_cuts bs p w (boundary_within bs p b) b)),
      (λ h.
          ⊎_elim
          (λ (inside : p < length bs). boundary_there bs p inside (begins_there bs p w inside h.1))
          (λ (end : length bs ≤ p). boundary_end bs p (omega (arith, h.0)))
          (cases_lt p (length bs))),
    )

pub boundary_decides : (bs : List ℕ) (p : ℕ) (b : Bool) → admits bs ≡ true → b ≡ boundary bs p → Decides b (Whole bs p)
boundary_decides bs p b a e = Decides-at b (boundary bs p) e (boundaries bs p a)

-- the character at a boundary before the end
pub character : (bs : List ℕ) (p : ℕ) → admits bs ≡ true → p < length bs → boundary bs p ≡ true → Sequence utf8 (between p (p + sequence utf8 bs p) bs)
character bs p a l b =
    let w = admitted_well bs a in
    found_sequence utf8 bs p (begins_there bs p w l (boundary_cuts bs p w (omega arith) b))

spans_by : (bs : List ℕ) (p : ℕ) (b : Bool) → admits bs ≡ true → (ltb p (length bs) && boundary bs p) ≡ b → Spans bs p (cond b (Ok (sequence utf8 bs p)) (Err (record {})))
spans_by bs p true a e = let both = and_parts (ltb p (length bs)) (boundary bs p) e in character bs p a (ltb-true p (length bs) both.0) both.1
spans_by bs p false a e = λ w.
    ⊎_elim
    (λ (inside : p < length bs). absurd (both_ways (ltb p (length bs) && boundary bs p) e (and_from (ltb p (length bs)) (boundary bs p) (lt-ltb p (length bs) inside) ((boundaries bs p a).1 w))))
    (λ (end : length bs ≤ p). omega (arith, w.0))
    (cases_lt p (length bs))

pub spans : (bs : List ℕ) (p : ℕ) (r : Result ℕ NoCharacter) → admits bs ≡ true → r ≡ char_len bs p → Spans bs p r
spans bs p r a e = subst (Spans bs p) (sym e) (spans_by bs p (ltb p (length bs) && boundary bs p) a refl)

-- before and after an ASCII byte there is a boundary
pub boundary_start : (bs : List ℕ) → admits bs ≡ true → boundary bs 0 ≡ true
boundary_start bs a = (boundaries bs 0 a).1 (omega arith, ([], tt, refl))

pub ascii_before : (bs : List ℕ) (p : ℕ) → p < length bs → get_or bs p 0 < 128 → boundary bs p ≡ true
ascii_before bs p l h = grind (arith, nat_tests)

one_byte : (b : ℕ) → b < 128 → Sequence utf8 (b ∷ [])
one_byte b h =
    (0, omega arith, and_from (true && (leb 0 b && leb b 0x7F)) true (and_from (leb 0 b) (leb b 0x7F) (le-leb 0 b (omega arith)) (le-leb b 0x7F (omega arith))) refl, refl)

pub ascii_after : (bs : List ℕ) (p : ℕ) → admits bs ≡ true → p < length bs → get_or bs p 0 < 128 → boundary bs (p + 1) ≡ true
ascii_after bs p a l h =
    let before = ((boundaries bs p a).0 (ascii_before bs p l h)).1 in
    let b = get_or bs p 0 in
    let joins : flat_map (λ q. q) (before.0 ++ (b ∷ []) ∷ []) ≡ take (p + 1) bs =
    sym (flat_map_more (λ (q : List ℕ). q) [] before.0 (b ∷ [])) ∙ (ap (λ z. z ++ b ∷ []) before.2 ∙ sym (take_more bs p 0 l)) in
    (boundaries bs (p + 1) a).1 (omega arith, (before.0 ++ (b ∷ []) ∷ [], All-push (Sequence utf8) before.0 (b ∷ []) before.1 (one_byte b h), joins))
