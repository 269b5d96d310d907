-- One step of the scan for the end of a block comment. Assumes nothing.
use Rattle.std.proofs.Common.{◌≡◌, ℕ, zero, suc, ◌+◌, Bool, true, false, cond, ◌&&◌, ◌||◌, eqb, List, ◌∷◌, Some, None, Option, refl, ap, ◌∙◌, arith}
use Rattle.std.proofs.lemmas.Bool.{true≢false}
use Rattle.scanner.specs.Grammar.{slash, star, Single}
use Rattle.scanner.specs.Comments.{further, closing}

-- n bytes further
abbrev pub plus : ℕ → Option ℕ → Option ℕ
plus zero o = o
plus (suc n) o = further (plus n o)

pub plus_some : (n m : ℕ) → plus n (Some m) ≡ Some (n + m)
plus_some zero m = ap Some (let e : m ≡ 0 + m = omega arith in e)
plus_some (suc n) m = ap further (plus_some n m) ∙ ap Some (let e : suc (n + m) ≡ suc n + m = omega arith in e)

pub plus_none : (n : ℕ) → plus n None ≡ None
plus_none zero = refl
plus_none (suc n) = ap further (plus_none n)

pub plus_plus : (n m : ℕ) (o : Option ℕ) → plus n (plus m o) ≡ plus (n + m) o
plus_plus zero m o = ap (λ k. plus k o) (let e : m ≡ 0 + m = omega arith in e)
plus_plus (suc n) m o = ap further (plus_plus n m o) ∙ ap (λ k. plus k o) (let e : suc (n + m) ≡ suc n + m = omega arith in e)

further_step : (o p : Option ℕ) (n : ℕ) → o ≡ p → further p ≡ Some n → (m : ℕ) × (o ≡ Some m) × (n ≡ suc m)
further_step o None n e f = let z : ◌≡◌ {A = ℕ} 0 1 = cc in absurd (omega arith)
further_step o (Some m) n e f = (m, e, (cc))

pub further_some : (o : Option ℕ) (n : ℕ) → further o ≡ Some n → (m : ℕ) × (o ≡ Some m) × (n ≡ suc m)
further_some o n e = further_step o o n refl e

last_of : (a b : Bool) (u v w : Option ℕ) → (a || b) ≡ false → cond a u (cond b v w) ≡ w
last_of true b u v w e = absurd (true≢false e)
last_of false true u v w e = absurd (true≢false e)
last_of false false u v w e = refl

-- a single character is passed over
pub single_step : (d x y : ℕ) (xs : List ℕ) → Single (x ∷ y ∷ xs) → closing d (x ∷ y ∷ xs) ≡ further (closing d (y ∷ xs))
single_step zero x y xs s = last_of (eqb x star && eqb y slash) (eqb x slash && eqb y star) _ _ _ s
single_step (suc d) x y xs s = last_of (eqb x star && eqb y slash) (eqb x slash && eqb y star) _ _ _ s
