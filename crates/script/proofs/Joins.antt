-- The run of a table's sequences against the relation: bytes that are sequences in a row. Assumes nothing.
use Rattle.std.proofs.Common.{◌≡◌, ℕ, zero, suc, ◌+◌, ◌-◌, ◌<◌, ◌≤◌, Bool, true, false, cond, ◌&&◌, ltb, leb, List, [], ◌∷◌, ◌++◌, length, get_or, take, drop, sym, refl, ap, ◌∙◌, subst, ⊎_elim, arith, length-append, take-add}
use Rattle.std.specs.List.{flat_map, AllByRecursion, between}
use Rattle.std.proofs.lemmas.List.{append_assoc, get_or-append-add, get_or_append_left, drop-drop, length-take, length-take-le, length-drop, take-append-drop}
use Rattle.std.proofs.lemmas.Bool.{lt-ltb, cases_lt}
use Rattle.script.specs.Sequences.{Range, Row, holds, stands, sequence, after, run_end, Sequence, Sequences, Stands, Run}
use Rattle.script.proofs.Runs.{sequence_within, after_ge, after_none, run_step}

-- a table where a row that stands somewhere is the one that is found there, and no row is empty
pub record Fair (t : List Row) : Type 0 where
  pub some : (k : ℕ) → k < length t → 0 < length (get_or t k [])
  pub found : (k : ℕ) → k < length t → (bs : List ℕ) (p : ℕ) → stands (get_or t k []) bs p ≡ true → sequence t bs p ≡ length (get_or t k [])

-- a part of the bytes is read alike alone and in its place
holds_at : (r : Range) (xs q ys : List ℕ) (k : ℕ) → k < length q → holds r (xs ++ (q ++ ys)) (length xs + k) ≡ holds r q k
holds_at r xs q ys k l =
    let byte : get_or (xs ++ (q ++ ys)) (length xs + k) 0 ≡ get_or q k 0 = get_or-append-add xs (q ++ ys) k 0 ∙ get_or_append_left q ys 0 k l in
    let inside : length xs + k < length (xs ++ (q ++ ys)) = omega (arith, length-append xs (q ++ ys), length-append q ys) in
    let both : ltb (length xs + k) (length (xs ++ (q ++ ys))) ≡ ltb k (length q) = lt-ltb (length xs + k) (length (xs ++ (q ++ ys))) inside ∙ sym (lt-ltb k (length q) l) in
    ap (λ b. b && (leb r.least (get_or (xs ++ (q ++ ys)) (length xs + k) 0) && leb (get_or (xs ++ (q ++ ys)) (length xs + k) 0) r.most)) both
    ∙ ap (λ n. ltb k (length q) && (leb r.least n && leb n r.most)) byte

pub stands_at : (r : Row) (xs q ys : List ℕ) (k : ℕ) → k + length r ≤ length q → stands r (xs ++ (q ++ ys)) (length xs + k) ≡ stands r q k
stands_at [] xs q ys k l = refl
stands_at (x ∷ r) xs q ys k l =
    let next : length xs + k + 1 ≡ length xs + (k + 1) = omega arith in
    ap (λ b. b && stands r (xs ++ (q ++ ys)) (length xs + k + 1)) (holds_at x xs q ys k (omega arith))
    ∙ ap (λ n. holds x q k && stands r (xs ++ (q ++ ys)) n) next
    ∙ ap (λ b. holds x q k && b) (stands_at r xs q ys (k + 1) (omega arith))

-- a sequence in its place is found there
sequence_at : (t : List Row) → Fair t → (xs q ys : List ℕ) → Sequence t q → sequence t (xs ++ (q ++ ys)) (length xs) ≡ length q
sequence_at t fair xs q ys d =
    let row = get_or t d.0 [] in
    let bs = xs ++ (q ++ ys) in
    let start : length xs + 0 ≡ length xs = omega arith in
    let here : stands row bs (length xs + 0) ≡ true = stands_at row xs q ys 0 (omega (arith, d.3)) ∙ d.2 in
    fair.found d.0 d.1 bs (length xs) (subst (λ n. stands row bs n ≡ true) start here) ∙ sym d.3

-- past whole sequences the run goes on as before
past : (t : List Row) → Fair t → (qs : List (List ℕ)) → AllByRecursion (Sequence t) qs → (xs ys : List ℕ) → run_end t (xs ++ (flat_map (λ q. q) qs ++ ys)) (length xs) ≡ run_end t (xs ++ (flat_map (λ q. q) qs ++ ys)) (length xs + length (flat_map (λ q. q) qs))
past t fair [] all xs ys = let same : length xs ≡ length xs + 0 = omega arith in ap (run_end t (xs ++ ys)) same
past t fair (q ∷ qs) all xs ys =
    let rest = flat_map (λ (z : List ℕ). z) qs in
    let bs = xs ++ ((q ++ rest) ++ ys) in
    let again : bs ≡ xs ++ (q ++ (rest ++ ys)) = ap (λ z. xs ++ z) (append_assoc q rest ys) in
    let long : sequence t bs (length xs) ≡ length q = ap (λ z. sequence t z (length xs)) again ∙ sequence_at t fair xs q (rest ++ ys) all.0 in
    let step : run_end t bs (length xs) ≡ run_end t bs (length xs + length q) = sym (run_step t bs (length xs)) ∙ ap (λ n. run_end t bs (length xs + n)) long in
    let seam : bs ≡ (xs ++ q) ++ (rest ++ ys) = again ∙ sym (append_assoc xs q (rest ++ ys)) in
    let ih = past t fair qs all.1 (xs ++ q) ys in
    let to : length (xs ++ q) ≡ length xs + length q = length-append xs q in
    let far : length (xs ++ q) + length rest ≡ length xs + length (q ++ rest) = omega (arith, to, length-append q rest) in
    step
    ∙ (ap (run_end t bs) (sym to)
    ∙ (ap (λ z. run_end t z (length (xs ++ q))) seam
    ∙ (ih
    ∙ (ap (λ z. run_end t z (length (xs ++ q) + length rest)) (sym seam)
    ∙ ap (run_end t bs) far))))

-- a list in three parts
pub parts : (bs : List ℕ) (p q : ℕ) → p ≤ q → bs ≡ take p bs ++ (between p q bs ++ drop q bs)
parts bs p q l =
    let to : p + (q - p) ≡ q = omega arith in
    let back : drop (q - p) (drop p bs) ≡ drop q bs = drop-drop (q - p) p bs ∙ ap (λ n. drop n bs) to in
    sym (ap (λ z. take p bs ++ (between p q bs ++ z)) (sym back) ∙ (ap (λ z. take p bs ++ z) (take-append-drop (q - p) (drop p bs)) ∙ take-append-drop p bs))

pub length_between : (bs : List ℕ) (p q : ℕ) → p ≤ q → q ≤ length bs → length (between p q bs) ≡ q - p
length_between bs p q l h = length-take-le (q - p) (drop p bs) (omega (arith, length-drop p bs))

pub run_past : (t : List Row) → Fair t → (bs : List ℕ) (p q : ℕ) → p ≤ q → q ≤ length bs → Sequences t (between p q bs) → run_end t bs p ≡ run_end t bs q
run_past t fair bs p q l h joins =
    let qs = joins.0 in
    let whole : bs ≡ take p bs ++ (flat_map (λ z. z) qs ++ drop q bs) = parts bs p q l ∙ ap (λ z. take p bs ++ (z ++ drop q bs)) (sym joins.2) in
    let e = past t fair qs joins.1 (take p bs) (drop q bs) in
    let from : length (take p bs) ≡ p = length-take-le p bs (omega arith) in
    let to : length (take p bs) + length (flat_map (λ z. z) qs) ≡ q = omega (arith, from, ap length joins.2, length_between bs p q l h) in
    ap (run_end t bs) (sym from) ∙ (ap (λ z. run_end t z (length (take p bs))) whole ∙ (e ∙ (ap (λ z. run_end t z (length (take p bs) + length (flat_map (λ z. z) qs))) (sym whole) ∙ ap (run_end t bs) to)))

pub run_longest : (t : List Row) → Fair t → (bs : List ℕ) (p q : ℕ) → p ≤ q → q ≤ length bs → Sequences t (between p q bs) → q ≤ run_end t bs p
run_longest t fair bs p q l h joins = omega (arith, run_past t fair bs p q l h joins, after_ge t bs q (length bs))

-- the row of a sequence that was found
found_step : (r : Row) (t : List Row) (bs : List ℕ) (p : ℕ) (b : Bool) → stands r bs p ≡ b → 0 < cond b (length r) (sequence t bs p) → (0 < sequence t bs p → (k : ℕ) × (k < length t) × (stands (get_or t k []) bs p ≡ true) × (sequence t bs p ≡ length (get_or t k []))) → (k : ℕ) × (k < suc (length t)) × (stands (get_or (r ∷ t) k []) bs p ≡ true) × (cond b (length r) (sequence t bs p) ≡ length (get_or (r ∷ t) k []))
found_step r t bs p true e l ih = (0, omega arith, e, refl)
found_step r t bs p false e l ih = let k = ih l in (suc k.0, omega (arith, k.1), k.2, k.3)

pub found_row : (t : List Row) (bs : List ℕ) (p : ℕ) → 0 < sequence t bs p → (k : ℕ) × (k < length t) × (stands (get_or t k []) bs p ≡ true) × (sequence t bs p ≡ length (get_or t k []))
found_row [] bs p l = absurd (omega arith)
found_row (r ∷ t) bs p l = found_step r t bs p (stands r bs p) refl l (found_row t bs p)

pub found_sequence : (t : List Row) (bs : List ℕ) (p : ℕ) → 0 < sequence t bs p → Sequence t (between p (p + sequence t bs p) bs)
found_sequence t bs p l =
    let k = found_row t bs p l in
    let end = p + sequence t bs p in
    let within = sequence_within t bs p l in
    let row = get_or t k.0 [] in
    let q = between p end bs in
    let long : length q ≡ length row = length_between bs p end (omega arith) within ∙ omega (arith, k.3) in
    let from : length (take p bs) ≡ p = length-take-le p bs (omega arith) in
    let place : length (take p bs) + 0 ≡ p = omega arith in
    let here : stands row (take p bs ++ (q ++ drop end bs)) (length (take p bs) + 0) ≡ true =
    ap (λ z. stands row z (length (take p bs) + 0)) (sym (parts bs p end (omega arith))) ∙ (ap (stands row bs) place ∙ k.2) in
    (k.0, k.1, sym (stands_at row (take p bs) q (drop end bs) 0 (omega (arith, long))) ∙ here, long)

between_add : (bs : List ℕ) (p q r : ℕ) → p ≤ q → q ≤ r → between p q bs ++ between q r bs ≡ between p r bs
between_add bs p q r l h =
    let to : p + (q - p) ≡ q = omega arith in
    let sum : q - p + (r - q) ≡ r - p = omega arith in
    let back : drop (q - p) (drop p bs) ≡ drop q bs = drop-drop (q - p) p bs ∙ ap (λ n. drop n bs) to in
    ap (λ z. between p q bs ++ take (r - q) z) (sym back) ∙ (sym (take-add (q - p) (r - q) (drop p bs)) ∙ ap (λ n. take n (drop p bs)) sum)

between_none : (bs : List ℕ) (p : ℕ) → [] ≡ between p p bs
between_none bs p = let none : 0 ≡ p - p = omega arith in ap (λ n. take n (drop p bs)) none

-- what a run passes over is sequences in a row
after_joins : (t : List Row) (bs : List ℕ) (p n : ℕ) → Sequences t (between p (after t n bs p) bs)
after_joins t bs p zero = ([], tt, between_none bs p)
after_joins t bs p (suc n) =
    ⊎_elim
    (λ (some : 0 < sequence t bs p).
    let mid = p + sequence t bs p in
    let rest = after_joins t bs mid n in (
      between p mid bs ∷ rest.0,
      (found_sequence t bs p some, rest.1),
      ap (λ z. between p mid bs ++ z) rest.2 ∙ between_add bs p mid (after t n bs mid) (omega arith) (after_ge t bs mid n),
    ))
    (λ (none : sequence t bs p ≤ 0).
    let stays = after_none t bs p (suc n) (omega arith) in
    ([], tt, between_none bs p ∙ ap (λ e. between p e bs) (sym stays)))
    (cases_lt 0 (sequence t bs p))

pub run_joins : (t : List Row) (bs : List ℕ) (p : ℕ) → Sequences t (between p (run_end t bs p) bs)
run_joins t bs p = after_joins t bs p (length bs)

after_le : (t : List Row) (bs : List ℕ) (p n : ℕ) → p ≤ length bs → after t n bs p ≤ length bs
after_le t bs p zero l = l
after_le t bs p (suc n) l =
    ⊎_elim
    (λ (some : 0 < sequence t bs p). after_le t bs (p + sequence t bs p) n (sequence_within t bs p some))
    (λ (none : sequence t bs p ≤ 0). omega (arith, after_none t bs p (suc n) (omega arith)))
    (cases_lt 0 (sequence t bs p))

pub run_le : (t : List Row) (bs : List ℕ) (p : ℕ) → p ≤ length bs → run_end t bs p ≤ length bs
run_le t bs p l = after_le t bs p (length bs) l

-- where the run ends is the one place that fits its description
pub run_is : (t : List Row) → Fair t → (bs : List ℕ) (p : ℕ) → p ≤ length bs → Run t bs p (run_end t bs p)
run_is t fair bs p l = record {
  low = after_ge t bs p (length bs);
  high = run_le t bs p l;
  there = run_joins t bs p;
  all = λ r more high there. omega (arith, run_longest t fair bs p r (omega (arith, after_ge t bs p (length bs))) high there);
}

pub run_only : (t : List Row) → Fair t → (bs : List ℕ) (p q : ℕ) → Run t bs p q → q ≡ run_end t bs p
run_only t fair bs p q d =
    let low = d.low in
    let high = d.high in
    let most = run_longest t fair bs p q low high d.there in
    ⊎_elim
    (λ (more : q < run_end t bs p). absurd (d.all (run_end t bs p) more (run_le t bs p (omega arith)) (run_joins t bs p)))
    (λ (no_more : run_end t bs p ≤ q). omega arith)
    (cases_lt q (run_end t bs p))

-- the sequence that stands at a place, or none of the table does
there : (t : List Row) → Fair t → (bs : List ℕ) (p : ℕ) (q : List ℕ) → Sequence t q → between p (p + length q) bs ≡ q → sequence t bs p ≡ length q
there t fair bs p q d e =
    let some = fair.some d.0 d.1 in
    let end = p + length q in
    let within : end ≤ length bs = omega (arith, d.3, ap length e, length-take (end - p) (drop p bs), length-drop p bs) in
    let from : length (take p bs) ≡ p = length-take-le p bs (omega arith) in
    let whole : bs ≡ take p bs ++ (q ++ drop end bs) = parts bs p end (omega arith) ∙ ap (λ z. take p bs ++ (z ++ drop end bs)) e in
    ap (λ z. sequence t z p) whole ∙ (ap (sequence t (take p bs ++ (q ++ drop end bs))) (sym from) ∙ sequence_at t fair (take p bs) q (drop end bs) d)

pub stands_there : (t : List Row) → Fair t → (bs : List ℕ) (p : ℕ) → Stands t bs p (sequence t bs p)
stands_there t fair bs p = record {
  one = found_sequence t bs p;
  none = λ e q d is. omega (arith, fair.some d.0 d.1, d.3, there t fair bs p q d is);
}
