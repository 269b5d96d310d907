-- How far the sequences of a table follow one another. Assumes nothing.
use Rattle.std.proofs.Common.{◌≡◌, ℕ, zero, suc, ◌+◌, ◌<◌, ◌≤◌, Bool, true, false, cond, ltb, List, [], ◌∷◌, length, sym, refl, ap, ◌∙◌, ⊎_elim, arith}
use Rattle.std.proofs.lemmas.Bool.{and_parts, ltb-true, cases_lt}
use Rattle.script.specs.Sequences.{Range, Row, holds, stands, sequence, after, run_end}

pub holds_within : (r : Range) (bs : List ℕ) (p : ℕ) → holds r bs p ≡ true → p < length bs
holds_within r bs p e = ltb-true p (length bs) (and_parts (ltb p (length bs)) _ e).0

pub stands_within : (r : Row) (bs : List ℕ) (p : ℕ) → p ≤ length bs → stands r bs p ≡ true → p + length r ≤ length bs
stands_within [] bs p l e = omega arith
stands_within (x ∷ r) bs p l e =
    let both = and_parts (holds x bs p) (stands r bs (p + 1)) e in
    let here = holds_within x bs p both.0 in
    let rest = stands_within r bs (p + 1) (omega arith) both.1 in
    omega arith

within_row : (r : Row) (bs : List ℕ) (p : ℕ) → stands r bs p ≡ true → 0 < length r → p + length r ≤ length bs
within_row [] bs p e l = absurd (omega arith)
within_row (x ∷ r) bs p e l =
    let here = holds_within x bs p (and_parts (holds x bs p) (stands r bs (p + 1)) e).0 in
    stands_within (x ∷ r) bs p (omega arith) e

within_step : (r : Row) (bs : List ℕ) (p rest : ℕ) (b : Bool) → stands r bs p ≡ b → (0 < rest → p + rest ≤ length bs) → 0 < cond b (length r) rest → p + cond b (length r) rest ≤ length bs
within_step r bs p rest true e ih l = within_row r bs p e l
within_step r bs p rest false e ih l = ih l

-- a sequence ends within the bytes
pub sequence_within : (t : List Row) (bs : List ℕ) (p : ℕ) → 0 < sequence t bs p → p + sequence t bs p ≤ length bs
sequence_within [] bs p l = absurd (omega arith)
sequence_within (r ∷ t) bs p l = within_step r bs p (sequence t bs p) (stands r bs p) refl (sequence_within t bs p) l

-- a step of a run: it goes on, and stays within the bytes
pub step_within : (t : List Row) (bs : List ℕ) (p n : ℕ) → n ≡ sequence t bs p → (n ≡ 0 → ⊥) → (0 < n) × (p + n ≤ length bs)
step_within t bs p n e some = (omega (arith, some), omega (arith, some, sequence_within t bs p (omega (arith, some))))

module _ (t : List Row) (bs : List ℕ) where
  pub after_none : (p n : ℕ) → sequence t bs p ≡ 0 → after t n bs p ≡ p
  after_none p zero e = refl
  after_none p (suc n) e = let same : p + sequence t bs p ≡ p = omega arith in ap (after t n bs) same ∙ after_none p n e

  -- with turns for all the bytes, one turn more changes nothing
  after_more : (p n : ℕ) → length bs ≤ p + n → after t (suc n) bs p ≡ after t n bs p
  after_more p zero l =
      ⊎_elim (λ (some : 0 < sequence t bs p). absurd (omega (arith, sequence_within t bs p some))) (λ (none : sequence t bs p ≤ 0). omega arith) (cases_lt 0 (sequence t bs p))
  after_more p (suc n) l =
      ⊎_elim
      (λ (some : 0 < sequence t bs p). after_more (p + sequence t bs p) n (omega arith))
      (λ (none : sequence t bs p ≤ 0). let e : sequence t bs p ≡ 0 = omega arith in after_none p (suc (suc n)) e ∙ sym (after_none p (suc n) e))
      (cases_lt 0 (sequence t bs p))

  pub after_ge : (p n : ℕ) → p ≤ after t n bs p
  after_ge p zero = omega arith
  after_ge p (suc n) = omega (arith, after_ge (p + sequence t bs p) n)

  pub run_step : (p : ℕ) → run_end t bs (p + sequence t bs p) ≡ run_end t bs p
  run_step p = after_more p (length bs) (omega arith)

  pub run_stop : (p : ℕ) → sequence t bs p ≡ 0 → run_end t bs p ≡ p
  run_stop p e = after_none p (length bs) e
