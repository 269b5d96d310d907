-- One bit of a word.
use Rattle.std.proofs.Common.{◌≡◌, ℕ, ◌+◌, ◌*◌, ◌%◌, ◌^◌, ◌<◌, eqb, ◌≢◌, bit_or, sym, ap, ◌∙◌, subst, arith}
use lib.Bits.{or_add_and}
use Rattle.std.specs.Int.{bit_at}
use Rattle.std.proofs.lemmas.Nat.{one_shl, or_lt, pow_below}
use Rattle.std.proofs.lemmas.Nat.Bits.{bit_at_or, bit_at-pow_same, bit_at-pow_other, bit_at-lt, and_pow}
use Rattle.std.proofs.lemmas.Bool.{cond_both, eqb-true, eqb-false}
use Rattle.input.specs.Marks.{raised}

-- the word with the bit set, by a sum
or_raised : (w k : ℕ) → bit_or w (2 ^ k) ≡ raised w k
or_raised w k =
    let P : ℕ → Type 0 = λ n. bit_or w (2 ^ k) ≡ n in
    let sum = or_add_and w (2 ^ k) in
    let both = and_pow w k in
    cond_both (eqb (bit_at w k) 1) w (w + 2 ^ k) P
    (λ e. let one = both ∙ ap (λ n. n * 2 ^ k) (eqb-true (bit_at w k) 1 e) in omega arith)
    (λ e.
    let none : bit_at w k ≡ 0 = omega (arith, bit_at-lt w k, eqb-false (bit_at w k) 1 e) in
    let nothing = both ∙ ap (λ n. n * 2 ^ k) none in
    omega arith)

-- what `w | 1 << k` computes
pub set_raised : (w k : ℕ) → k < 64 → bit_or w (1 * 2 ^ k % 2 ^ 64) ≡ raised w k
set_raised w k l = ap (bit_or w) (one_shl k 64 l) ∙ or_raised w k

pub raised_same : (w k : ℕ) → bit_at (raised w k) k ≡ 1
raised_same w k =
    ap (λ n. bit_at n k) (sym (or_raised w k))
    ∙ bit_at_or w (2 ^ k) k
    ∙ omega (arith, bit_at-pow_same k, bit_at-lt w k)

pub raised_other : (w k j : ℕ) → j ≢ k → bit_at (raised w k) j ≡ bit_at w j
raised_other w k j ne =
    ap (λ n. bit_at n j) (sym (or_raised w k))
    ∙ bit_at_or w (2 ^ k) j
    ∙ omega (arith, bit_at-pow_other k j ne)

pub raised_lt : (w k : ℕ) → w < 2 ^ (k + 1) → raised w k < 2 ^ (k + 1)
raised_lt w k h = subst (λ n. n < 2 ^ (k + 1)) (or_raised w k) (or_lt (k + 1) w (2 ^ k) h (pow_below k (k + 1) (omega arith)))
