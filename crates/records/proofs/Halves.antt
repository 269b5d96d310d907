-- The search by halves: what a turn does, and where it ends. Assumes nothing.
use Rattle.std.proofs.Common.{◌≡◌, ℕ, zero, suc, ◌+◌, ◌<◌, ◌≤◌, Bool, true, false, cond, ltb, List, map, length, get_or, sym, refl, ap, ◌∙◌, subst, ⊎_elim, arith}
use lib.ListN.{length-map}
use Rattle.std.proofs.lemmas.List.{get_or-map}
use Rattle.std.proofs.lemmas.Bool.{ltb-true, ltb-false, lt-ltb, le-ltb, cond_both, cases_lt, cases_Bool, both_ways}
use Rattle.records.specs.Cuts.{middle, halves, bisect, Partitioned, Cuts}

middle_low : (low high : ℕ) → low < high → low ≤ middle low high
middle_low low high l = omega arith

middle_high : (low high : ℕ) → low < high → middle low high < high
middle_high low high l = omega arith

cond_alike : {A : Type 0} (b : Bool) (x v y : A) → (b ≡ true → x ≡ v) → cond b x y ≡ cond b v y
cond_alike true x v y f = f refl
cond_alike false x v y f = refl

module _ (answers : List Bool) where
  -- where nothing is left the search stays
  halves_none : (n low high : ℕ) → high ≤ low → halves n answers low high ≡ low
  halves_none zero low high l = refl
  halves_none (suc n) low high l = rw (le-ltb low high l)

  -- turns to spare change nothing
  turns : (m n low high : ℕ) → high ≤ low + m → high ≤ low + n → halves m answers low high ≡ halves n answers low high
  turns zero n low high k l = sym (halves_none n low high (omega arith))
  turns (suc m) zero low high k l = halves_none (suc m) low high (omega arith)
  turns (suc m) (suc n) low high k l =
      let mid = middle low high in
      cond_alike (ltb low high)
      (cond (get_or answers mid false) (halves m answers (mid + 1) high) (halves m answers low mid))
      (cond (get_or answers mid false) (halves n answers (mid + 1) high) (halves n answers low mid))
      low
      (λ some.
      let inside = ltb-true low high some in
      let above = middle_low low high inside in
      let below = middle_high low high inside in
      rw (turns m n (mid + 1) high (omega arith) (omega arith), turns m n low mid (omega arith) (omega arith)))

  turn : (low high : ℕ) → low < high → halves high answers low high ≡ cond (get_or answers (middle low high) false) (halves high answers (middle low high + 1) high) (halves high answers low (middle low high))
  turn low high l = turns high (suc high) low high (omega arith) (omega arith) ∙ rw (lt-ltb low high l)

  -- a turn of the loop: on to the upper half, to the lower half, and the end
  pub up : (low high end : ℕ) → low < high → get_or answers (middle low high) false ≡ true → halves high answers low high ≡ end → halves high answers (middle low high + 1) high ≡ end
  up low high end l e h = let next = rw e at (turn low high l) in sym next ∙ h

  pub down : (low high end : ℕ) → low < high → get_or answers (middle low high) false ≡ false → halves high answers low high ≡ end → halves (middle low high) answers low (middle low high) ≡ end
  down low high end l e h =
      let below = middle_high low high l in
      let next = rw e at (turn low high l) in
      turns (middle low high) high low (middle low high) (omega arith) (omega arith) ∙ sym next ∙ h

  pub done : (low high end : ℕ) → high ≤ low → halves high answers low high ≡ end → low ≡ end
  done low high end l h = sym (halves_none high low high l) ∙ h

  -- the search between places with true before and false after ends at the cut
  module _ (parted : Partitioned answers) where
    front_more : (i m : ℕ) → m < length answers → get_or answers m false ≡ true → i < m + 1 → get_or answers i false ≡ true
    front_more i m l e h =
        ⊎_elim
        (λ (before : i < m). parted i m before l e)
        (λ (here : m ≤ i). let same : m ≡ i = omega arith in subst (λ k. get_or answers k false ≡ true) same e)
        (cases_lt i m)

    rest_more : (i m : ℕ) → i < length answers → get_or answers m false ≡ false → m ≤ i → get_or answers i false ≡ false
    rest_more i m l e h =
        ⊎_elim
        (λ (yes : get_or answers i false ≡ true).
        ⊎_elim
        (λ (after : m < i). absurd (both_ways (get_or answers m false) e (parted m i after l yes)))
        (λ (here : i ≤ m). let same : m ≡ i = omega arith in subst (λ k. get_or answers k false ≡ false) same e)
        (cases_lt m i))
        (λ (no : get_or answers i false ≡ false). no)
        (cases_Bool (get_or answers i false))

    cuts_by : (n low high : ℕ) → low ≤ high → high ≤ length answers → high ≤ low + n → ((i : ℕ) → i < low → get_or answers i false ≡ true) → ((i : ℕ) → high ≤ i → i < length answers → get_or answers i false ≡ false) → Cuts answers (halves n answers low high)
    cuts_by zero low high a b k front rest = record { within = omega arith; front = front; rest = λ i l. rest i (omega arith) }
    cuts_by (suc n) low high a b k front rest =
        let mid = middle low high in
        cond_both (ltb low high)
        (cond (get_or answers mid false) (halves n answers (mid + 1) high) (halves n answers low mid))
        low
        (Cuts answers)
        (λ some.
        let inside = ltb-true low high some in
        let above = middle_low low high inside in
        let below = middle_high low high inside in
        cond_both (get_or answers mid false) (halves n answers (mid + 1) high) (halves n answers low mid) (Cuts answers)
        (λ e. cuts_by n (mid + 1) high (omega arith) b (omega arith) (λ i l. front_more i mid (omega arith) e l) rest)
        (λ e. cuts_by n low mid above (omega arith) (omega arith) front (λ i h l. rest_more i mid l e h)))
        (λ none. let over = ltb-false low high none in record { within = omega arith; front = front; rest = λ i l. rest i (omega arith) })

pub cuts : {R : Type 0} (before : R → Bool) (rs : List R) → Partitioned (map before rs) → Cuts (map before rs) (bisect before rs)
cuts before rs parted =
    let long = length-map rs before in
    cuts_by (map before rs) parted (length rs) 0 (length rs) (omega arith) (omega arith) (omega arith) (λ i l. absurd (omega arith)) (λ i h l. absurd (omega arith))

-- what the probe says of a record, as the answer at its place
pub answer_at : {R : Type 0} (before : R → Bool) (rs : List R) (i : ℕ) (x : R) (b : Bool) → i < length rs → x ≡ get_or rs i x → b ≡ before x → get_or (map before rs) i false ≡ b
answer_at before rs i x b l is e = get_or-map before rs i x false l ∙ sym (ap before is) ∙ sym e
