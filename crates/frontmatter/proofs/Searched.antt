-- A search, step by step, and what it finds. Assumes nothing.
use Rattle.std.proofs.Common.{◌≡◌, ℕ, zero, suc, ◌+◌, ◌-◌, ◌<◌, ◌≤◌, Bool, true, false, cond, sym, refl, ap, ◌∙◌, ⊎_elim, arith}
use Rattle.std.proofs.lemmas.Bool.{cond-true, cond-false, cases_eq, cases_lt, cases_order, both_ways}
use Rattle.frontmatter.specs.Searches.{seek, seek_back, first, past_last}

pub first_here : (t : ℕ → Bool) (p e : ℕ) → p < e → t p ≡ true → first t p e ≡ p
first_here t p e l h =
    let n : e - p ≡ suc (e - (p + 1)) = omega arith in
    ap (seek t p) n ∙ cond-true (t p) p (seek t (p + 1) (e - (p + 1))) h

pub first_later : (t : ℕ → Bool) (p e : ℕ) → p < e → t p ≡ false → first t p e ≡ first t (p + 1) e
first_later t p e l h =
    let n : e - p ≡ suc (e - (p + 1)) = omega arith in
    ap (seek t p) n ∙ cond-false (t p) p (seek t (p + 1) (e - (p + 1))) h

last_by : (t : ℕ → Bool) (p e : ℕ) → p < e → past_last t p e ≡ cond (t (e - 1)) e (past_last t p (e - 1))
last_by t p e l =
    let n : e - p ≡ suc (e - 1 - p) = omega arith in
    let place : p + (e - 1 - p) ≡ e - 1 = omega arith in
    let after : p + (e - 1 - p) + 1 ≡ e = omega arith in
    ap (seek_back t p) n
    ∙ (ap (λ k. cond (t k) (p + (e - 1 - p) + 1) (seek_back t p (e - 1 - p))) place
    ∙ ap (λ k. cond (t (e - 1)) k (seek_back t p (e - 1 - p))) after)

pub last_here : (t : ℕ → Bool) (p e : ℕ) → p < e → t (e - 1) ≡ true → past_last t p e ≡ e
last_here t p e l h = last_by t p e l ∙ cond-true (t (e - 1)) e (past_last t p (e - 1)) h

pub last_before : (t : ℕ → Bool) (p e : ℕ) → p < e → t (e - 1) ≡ false → past_last t p e ≡ past_last t p (e - 1)
last_before t p e l h = last_by t p e l ∙ cond-false (t (e - 1)) e (past_last t p (e - 1)) h

-- what the first place is: within bounds, no earlier one passes, and it passes unless it is the end
module _ (t : ℕ → Bool) where
  bounds_step : (p n : ℕ) (b : Bool) → (p + 1 ≤ seek t (p + 1) n) × (seek t (p + 1) n ≤ p + 1 + n) → (p ≤ cond b p (seek t (p + 1) n)) × (cond b p (seek t (p + 1) n) ≤ p + suc n)
  bounds_step p n true ih = (omega arith, omega arith)
  bounds_step p n false ih = (omega arith, omega arith)

  seek_bounds : (p n : ℕ) → (p ≤ seek t p n) × (seek t p n ≤ p + n)
  seek_bounds p zero = (omega arith, omega arith)
  seek_bounds p (suc n) = bounds_step p n (t p) (seek_bounds (p + 1) n)

  before_step : (p n k : ℕ) (b : Bool) → t p ≡ b → p ≤ k → k < cond b p (seek t (p + 1) n) → (p + 1 ≤ k → k < seek t (p + 1) n → t k ≡ false) → t k ≡ false
  before_step p n k true e l h ih = absurd (omega arith)
  before_step p n k false e l h ih =
      ⊎_elim (λ (same : p ≡ k). ap t (sym same) ∙ e) (λ (other : p ≡ k → ⊥). ih (omega (arith, other)) h) (cases_eq p k)

  seek_before : (p n k : ℕ) → p ≤ k → k < seek t p n → t k ≡ false
  seek_before p zero k l h = absurd (omega arith)
  seek_before p (suc n) k l h = before_step p n k (t p) refl l h (λ l' h'. seek_before (p + 1) n k l' h')

  hit_step : (p n : ℕ) (b : Bool) → t p ≡ b → cond b p (seek t (p + 1) n) < p + suc n → (seek t (p + 1) n < p + 1 + n → t (seek t (p + 1) n) ≡ true) → t (cond b p (seek t (p + 1) n)) ≡ true
  hit_step p n true e l ih = e
  hit_step p n false e l ih = ih (omega arith)

  seek_hit : (p n : ℕ) → seek t p n < p + n → t (seek t p n) ≡ true
  seek_hit p zero l = absurd (omega arith)
  seek_hit p (suc n) l = hit_step p n (t p) refl l (seek_hit (p + 1) n)

  pub first_low : (p e : ℕ) → p ≤ first t p e
  first_low p e = (seek_bounds p (e - p)).0

  pub first_high : (p e : ℕ) → p ≤ e → first t p e ≤ e
  first_high p e l = omega (arith, (seek_bounds p (e - p)).1)

  pub first_before : (p e k : ℕ) → p ≤ k → k < first t p e → t k ≡ false
  first_before p e k l h = seek_before p (e - p) k l h

  pub first_hit : (p e : ℕ) → p ≤ e → first t p e < e → t (first t p e) ≡ true
  first_hit p e l h = seek_hit p (e - p) (omega arith)

  pub first_nowhere : (p e : ℕ) → ((k : ℕ) → p ≤ k → k < e → t k ≡ true → ⊥) → e ≤ first t p e
  first_nowhere p e none =
      ⊎_elim
      (λ (found : first t p e < e). absurd (none (first t p e) (first_low p e) found (first_hit p e (omega (arith, first_low p e)) found)))
      (λ (end : e ≤ first t p e). end)
      (cases_lt (first t p e) e)

  -- and it is the only such place
  pub first_unique : (p e q : ℕ) → p ≤ q → q ≤ e → ((k : ℕ) → p ≤ k → k < q → t k ≡ true → ⊥) → (q < e → t q ≡ true) → q ≡ first t p e
  first_unique p e q l h before hit =
      let f = first t p e in
      ⊎_elim
      (λ (same : q ≡ f). same)
      (⊎_elim
      (λ (less : q < f). absurd (both_ways (t q) (first_before p e q l less) (hit (omega (arith, first_high p e (omega arith))))))
      (λ (more : f < q). absurd (before f (first_low p e) more (first_hit p e (omega arith) (omega arith)))))
      (cases_order q f)

  -- the place after the last one: within bounds, the one before it passes unless it is the start, and no later one passes
  last_bounds_step : (p n : ℕ) (b : Bool) → (p ≤ seek_back t p n) × (seek_back t p n ≤ p + n) → (p ≤ cond b (p + n + 1) (seek_back t p n)) × (cond b (p + n + 1) (seek_back t p n) ≤ p + suc n)
  last_bounds_step p n true ih = (omega arith, omega arith)
  last_bounds_step p n false ih = (omega arith, omega arith)

  back_bounds : (p n : ℕ) → (p ≤ seek_back t p n) × (seek_back t p n ≤ p + n)
  back_bounds p zero = (omega arith, omega arith)
  back_bounds p (suc n) = last_bounds_step p n (t (p + n)) (back_bounds p n)

  back_hit_step : (p n : ℕ) (b : Bool) → t (p + n) ≡ b → (p < seek_back t p n → t (seek_back t p n - 1) ≡ true) → p < cond b (p + n + 1) (seek_back t p n) → t (cond b (p + n + 1) (seek_back t p n) - 1) ≡ true
  back_hit_step p n true e ih l = let same : p + n + 1 - 1 ≡ p + n = omega arith in ap t same ∙ e
  back_hit_step p n false e ih l = ih l

  back_hit : (p n : ℕ) → p < seek_back t p n → t (seek_back t p n - 1) ≡ true
  back_hit p zero l = absurd (omega arith)
  back_hit p (suc n) l = back_hit_step p n (t (p + n)) refl (back_hit p n) l

  back_after_step : (p n k : ℕ) (b : Bool) → t (p + n) ≡ b → (seek_back t p n ≤ k → k < p + n → t k ≡ false) → cond b (p + n + 1) (seek_back t p n) ≤ k → k < p + suc n → t k ≡ false
  back_after_step p n k true e ih l h = absurd (omega arith)
  back_after_step p n k false e ih l h =
      ⊎_elim (λ (same : k ≡ p + n). ap t same ∙ e) (λ (other : k ≡ p + n → ⊥). ih l (omega (arith, other))) (cases_eq k (p + n))

  back_after : (p n k : ℕ) → seek_back t p n ≤ k → k < p + n → t k ≡ false
  back_after p zero k l h = absurd (omega arith)
  back_after p (suc n) k l h = back_after_step p n k (t (p + n)) refl (back_after p n k) l h

  pub last_low : (p e : ℕ) → p ≤ past_last t p e
  last_low p e = (back_bounds p (e - p)).0

  pub last_high : (p e : ℕ) → p ≤ e → past_last t p e ≤ e
  last_high p e l = omega (arith, (back_bounds p (e - p)).1)

  pub last_hit : (p e : ℕ) → p < past_last t p e → t (past_last t p e - 1) ≡ true
  last_hit p e l = back_hit p (e - p) l

  pub last_after : (p e k : ℕ) → p ≤ e → past_last t p e ≤ k → k < e → t k ≡ false
  last_after p e k h l m = back_after p (e - p) k l (omega arith)

  pub last_unique : (p e q : ℕ) → p ≤ q → q ≤ e → (p < q → t (q - 1) ≡ true) → ((k : ℕ) → q ≤ k → k < e → t k ≡ true → ⊥) → q ≡ past_last t p e
  last_unique p e q l h hit after =
      let f = past_last t p e in
      let low = last_low p e in
      let high = last_high p e (omega arith) in
      ⊎_elim
      (λ (same : q ≡ f). same)
      (⊎_elim
      (λ (less : q < f). absurd (after (f - 1) (omega arith) (omega arith) (last_hit p e (omega arith))))
      (λ (more : f < q). absurd (both_ways (t (q - 1)) (last_after p e (q - 1) (omega arith) (omega arith) (omega arith)) (hit (omega arith)))))
      (cases_order q f)
