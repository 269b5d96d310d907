-- A test of each number below a bound. Assumes nothing.
use Rattle.std.proofs.Common.{◌≡◌, ℕ, zero, suc, ◌<◌, Bool, true, false, ◌&&◌, sym, refl, arith}
use Rattle.std.proofs.lemmas.Grind.{common_steps}
use Rattle.lexed_str.specs.Offering.{all_below}

-- all pass exactly where each does
pub below_each : (test : ℕ → Bool) (n : ℕ) → all_below n test ≡ true → (i : ℕ) → i < n → test i ≡ true
below_each test zero e i l = absurd (omega arith)
below_each test (suc n) e i l =
    let before = below_each test n (grind (arith, common_steps)) i in
    grind (arith, common_steps)

pub below_all : (test : ℕ → Bool) (n : ℕ) → ((i : ℕ) → i < n → test i ≡ true) → all_below n test ≡ true
below_all test zero each = refl
below_all test (suc n) each =
    let last = each n (omega arith) in
    let before = below_all test n (λ i l. each i (omega arith)) in
    grind (arith, common_steps)

-- where one fails, not all pass
pub below_fails : (test : ℕ → Bool) (n i : ℕ) → i < n → test i ≡ false → all_below n test ≡ false
below_fails test n i l e =
    let each = λ (all : all_below n test ≡ true). below_each test n all i l in
    grind (arith, common_steps)

-- where not all pass, one of them fails
pub below_found : (test : ℕ → Bool) (n : ℕ) → all_below n test ≡ false → (i : ℕ) × (i < n) × (test i ≡ false)
below_found test zero e = absurd (grind (arith, common_steps))
below_found test (suc n) e =
    elim (test n) as (λ b. b && all_below n test ≡ false → test n ≡ b → (i : ℕ) × (i < suc n) × (test i ≡ false)) [
      | true ↦ (λ before t. let found = below_found test n before in (found.0, omega (arith, found.1), found.2))
      | false ↦ (λ any t. (n, omega arith, t))
    ]
    e refl

-- a test of each, told by what it says of each
pub below_told : (test : ℕ → Bool) (n : ℕ) (r : Bool) → (r ≡ true → (i : ℕ) → i < n → test i ≡ true) × (((i : ℕ) → i < n → test i ≡ true) → r ≡ true)
    → r ≡ all_below n test
below_told test n true told = sym (below_all test n (told.0 refl))
below_told test n false told =
    let each = λ (all : all_below n test ≡ true). told.1 (below_each test n all) in
    grind (arith, common_steps)
