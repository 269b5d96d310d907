-- The trials for a closing fence. Assumes nothing.
use Rattle.std.proofs.Common.{◌≡◌, ℕ, zero, suc, ◌+◌, ◌-◌, ◌<◌, ◌≤◌, Bool, true, false, cond, ltb, leb, List, length, Some, None, Option, sym, refl, ap, ◌∙◌, arith}
use Rattle.std.proofs.lemmas.Bool.{and_parts, leb-true, ltb-true, le-ltb, lt-ltb, cond-true, cond-false}
use Rattle.frontmatter.specs.declared.reader.Close.{Close}
use Rattle.frontmatter.specs.Lines.{line_feed, not_dash, at, dash_end, closes_at, close_from}
use Rattle.frontmatter.specs.Closes.{trial_of, close_of}
use Rattle.frontmatter.proofs.Searched.{first_nowhere, first_hit, first_high}

pub trial_none : (s : List ℕ) (n p : ℕ) → length s ≤ close_from s n p → None ≡ trial_of s n p
trial_none s n p l = sym (cond-false (ltb (close_from s n p) (length s)) (Some (close_from s n p)) None (le-ltb (close_from s n p) (length s) l))

pub trial_some : (s : List ℕ) (n p k : ℕ) → k ≡ close_from s n p → k < length s → Some k ≡ trial_of s n p
trial_some s n p k e l = ap Some e ∙ sym (cond-true (ltb (close_from s n p) (length s)) (Some (close_from s n p)) None (lt-ltb (close_from s n p) (length s) (omega arith)))

-- where no LF has n dashes after it, no trial with n succeeds
pub too_many : (s : List ℕ) (n p most : ℕ) → most < n → ((k : ℕ) → p ≤ k → k < length s → at line_feed s k ≡ true → dash_end s (k + 1) ≤ k + 1 + most) → length s ≤ close_from s n p
too_many s n p most l few =
    first_nowhere (closes_at s n) p (length s) (λ k low high e.
    let both = and_parts (at line_feed s k) (leb (k + 1 + n) (dash_end s (k + 1))) e in
    omega (arith, few k low high both.0, leb-true (k + 1 + n) (dash_end s (k + 1)) both.1))

some_by : (s : List ℕ) (p n k c : ℕ) (rest : Option Close) (b : Bool) → Some k ≡ cond b (Some c) None → cond b (Some (record { at = c; dashes = n })) rest ≡ Some (record { at = k; dashes = n })
some_by s p n k c rest true e = let same : k ≡ c = cc in ap (λ z. Some (record { at = z; dashes = n })) (sym same)
some_by s p n k c rest false e = let z : ◌≡◌ {A = ℕ} 0 1 = cc in absurd (omega arith)

none_by : (s : List ℕ) (p n c : ℕ) (rest : Option Close) (b : Bool) → None ≡ cond b (Some c) None → cond b (Some (record { at = c; dashes = n })) rest ≡ rest
none_by s p n c rest true e = let z : ◌≡◌ {A = ℕ} 0 1 = cc in absurd (omega arith)
none_by s p n c rest false e = refl

pub close_some : (s : List ℕ) (p n k : ℕ) → 0 < n → Some k ≡ trial_of s n p → close_of s p n ≡ Some (record { at = k; dashes = n })
close_some s p zero k l e = absurd (omega arith)
close_some s p (suc n) k l e = some_by s p (suc n) k (close_from s (suc n) p) (close_of s p n) (ltb (close_from s (suc n) p) (length s)) e

pub close_none : (s : List ℕ) (p n : ℕ) → 0 < n → None ≡ trial_of s n p → close_of s p n ≡ close_of s p (n - 1)
close_none s p zero l e = absurd (omega arith)
close_none s p (suc n) l e =
    let less : n ≡ suc n - 1 = omega arith in
    none_by s p (suc n) (close_from s (suc n) p) (close_of s p n) (ltb (close_from s (suc n) p) (length s)) e ∙ ap (close_of s p) less

-- the same after trials that left the reader where it was
module _ (s s' : List ℕ) (p p' n d : ℕ) (place : p' ≡ p) (bytes : s' ≡ s) (so_far : close_of s' p' n ≡ close_of s' p' d) (more : 0 < n) where
  pub found_then : (k : ℕ) → Some k ≡ trial_of s' n p' → Some (record { at = k; dashes = n }) ≡ close_of s p d
  found_then k e = let found = close_some s' p' n k more e in cc

  pub not_yet : (s'' : List ℕ) (p'' : ℕ) → p'' ≡ p' → s'' ≡ s' → None ≡ trial_of s' n p' → (p'' ≡ p) × (s'' ≡ s) × (close_of s'' p'' (n - 1) ≡ close_of s'' p'' d)
  not_yet s'' p'' pe se e = let fewer = close_none s' p' n more e in (cc, cc, cc)

-- the dashes of a close lie within the script
pub closes_within : (s : List ℕ) (n p : ℕ) → p ≤ length s → close_from s n p < length s → close_from s n p + 1 + n ≤ length s
closes_within s n p l h =
    let k = close_from s n p in
    let both = and_parts (at line_feed s k) (leb (k + 1 + n) (dash_end s (k + 1))) (first_hit (closes_at s n) p (length s) l h) in
    omega (arith, leb-true (k + 1 + n) (dash_end s (k + 1)) both.1, first_high (at not_dash s) (k + 1) (length s) (omega arith))

within_by : (s : List ℕ) (p n : ℕ) (c : Close) (b : Bool) → ltb (close_from s n p) (length s) ≡ b → p ≤ length s → (Some c ≡ close_of s p (n - 1) → c.at + 1 + c.dashes ≤ length s) → Some c ≡ cond b (Some (record { at = close_from s n p; dashes = n })) (close_of s p (n - 1)) → c.at + 1 + c.dashes ≤ length s
within_by s p n c true t l ih e =
    let at_is : c.at ≡ close_from s n p = cc in
    let dashes_is : c.dashes ≡ n = cc in
    omega (arith, closes_within s n p l (ltb-true (close_from s n p) (length s) t))
within_by s p n c false t l ih e = ih e

pub close_within : (s : List ℕ) (p n : ℕ) (c : Close) → p ≤ length s → Some c ≡ close_of s p n → c.at + 1 + c.dashes ≤ length s
close_within s p zero c l e = let z : ◌≡◌ {A = ℕ} 0 1 = cc in absurd (omega arith)
close_within s p (suc n) c l e =
    let less : suc n - 1 ≡ n = omega arith in
    within_by s p (suc n) c (ltb (close_from s (suc n) p) (length s)) refl l (λ e'. close_within s p n c l (e' ∙ ap (close_of s p) less))
    (e ∙ ap (λ m. cond (ltb (close_from s (suc n) p) (length s)) (Some (record { at = close_from s (suc n) p; dashes = suc n })) (close_of s p m)) (sym less))
