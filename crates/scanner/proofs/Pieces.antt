-- Where the scan ends there stand as many rests of block comments as were open. Assumes nothing.
use Rattle.std.proofs.Common.{◌≡◌, ℕ, zero, suc, ◌≤◌, Bool, true, false, cond, ◌&&◌, ◌||◌, eqb, List, [], ◌∷◌, ◌++◌, length, get_or, take, Some, sym, refl, ap, ◌∙◌, subst, subst₂, arith}
use Rattle.std.proofs.lemmas.List.{append_assoc}
use Rattle.std.proofs.lemmas.Bool.{and_parts, or_from, eqb-true}
use Rattle.scanner.specs.Grammar.{slash, star, Single, Rest, close, single, nested}
use Rattle.scanner.specs.Comments.{further, closing}
use Rattle.scanner.proofs.Steps.{further_some}
use Rattle.scanner.proofs.Across.{across_rest}
use Rattle.scanner.proofs.Formed.{formed}

-- d + 1 rests, one after the other
abbrev pub Rests : ℕ → List ℕ → Type 0
Rests zero t = Rest t
Rests (suc d) t = (a b : List ℕ) × Rest a × Rests d b × (a ++ b ≡ t)

-- a comment in front belongs to the first of them
comment_front : (d : ℕ) (r t : List ℕ) → Rest r → Rests d t → Rests d (slash ∷ star ∷ (r ++ t))
comment_front zero r t k rs = let f = formed k in nested f.form (slash ∷ star ∷ r) t f.blocks f.whole rs
comment_front (suc d) r t k rs =
    let f = formed k in (
      slash ∷ star ∷ (r ++ rs.0),
      rs.1,
      nested f.form (slash ∷ star ∷ r) rs.0 f.blocks f.whole rs.2,
      rs.3,
      ap (λ z. slash ∷ star ∷ z) (append_assoc r rs.0 rs.1 ∙ ap (λ z. r ++ z) rs.4),
    )

-- so does a single character
single_front : (d x y : ℕ) (ys : List ℕ) → Single (x ∷ y ∷ ys) → Rests d (y ∷ ys) → Rests d (x ∷ y ∷ ys)
single_front zero x y ys s rs = single x (y ∷ ys) s rs
single_front (suc d) x y ys s rs =
    let r = across_rest rs.2 in
    let first : get_or rs.0 0 0 ≡ y =
    ap (λ z. get_or z 0 0) r.full ∙ (ap (λ z. get_or (z ++ rs.1) 0 0) (sym r.full) ∙ ap (λ z. get_or z 0 0) rs.4) in
    let alone : Single (x ∷ rs.0) = subst (λ z. ((eqb x star && eqb z slash) || (eqb x slash && eqb z star)) ≡ false) (sym first) s in
    (x ∷ rs.0, rs.1, single x rs.0 alone rs.2, rs.3, ap (λ z. x ∷ z) rs.4)

rest_some : (t u : List ℕ) → Rest t → t ++ u ≡ [] → ⊥
rest_some t u r e =
    let k = across_rest r in
    let long : length (t ++ u) ≡ suc (length (k.tail ++ u)) = ap (λ z. length (z ++ u)) k.full in
    omega (arith, ap length e)

rests_some : (d : ℕ) → Rests d [] → ⊥
rests_some zero r = let k = across_rest r in omega (arith, ap length k.full)
rests_some (suc d) rs = rest_some rs.0 rs.1 rs.2 rs.4

pub record Closed (d n : ℕ) (xs : List ℕ) : Type 0 where
  pub rests : Rests d (take n xs)
  pub within : n ≤ length xs

-- the ways of a step
opens : (d x y n : ℕ) (xs : List ℕ) → (eqb x slash && eqb y star) ≡ true → ((m : ℕ) → closing (suc d) xs ≡ Some m → Closed (suc d) m xs) → further (further (closing (suc d) xs)) ≡ Some n → Closed d n (x ∷ y ∷ xs)
opens d x y n xs t far e =
    let one = further_some (further (closing (suc d) xs)) n e in
    let two = further_some (closing (suc d) xs) one.0 one.1 in
    let m = two.0 in
    let k = far m two.1 in
    let rs = k.rests in
    let long : suc (suc m) ≡ n = omega (arith, one.2, two.2) in
    let both = and_parts (eqb x slash) (eqb y star) t in
    let here : Rests d (slash ∷ star ∷ take m xs) = subst (λ z. Rests d (slash ∷ star ∷ z)) rs.4 (comment_front d rs.0 rs.1 rs.2 rs.3) in
    let there : Rests d (x ∷ y ∷ take m xs) = subst₂ (λ u v. Rests d (u ∷ v ∷ take m xs)) (sym (eqb-true x slash both.0)) (sym (eqb-true y star both.1)) here in
    subst (λ j. Closed d j (x ∷ y ∷ xs)) long (record { rests = there; within = omega (arith, k.within) })

passes : (d x y n m : ℕ) (xs : List ℕ) → Single (x ∷ y ∷ xs) → Closed d m (y ∷ xs) → n ≡ suc m → Closed d n (x ∷ y ∷ xs)
passes d x y n zero xs s k e = absurd (rests_some d k.rests)
passes d x y n (suc m) xs s k e =
    subst (λ j. Closed d j (x ∷ y ∷ xs)) (sym e) (record { rests = single_front d x y (take m xs) s k.rests; within = omega (arith, k.within) })

goes_on : (d x y n : ℕ) (xs : List ℕ) → Single (x ∷ y ∷ xs) → ((m : ℕ) → closing d (y ∷ xs) ≡ Some m → Closed d m (y ∷ xs)) → further (closing d (y ∷ xs)) ≡ Some n → Closed d n (x ∷ y ∷ xs)
goes_on d x y n xs s near e =
    let one = further_some (closing d (y ∷ xs)) n e in
    passes d x y n one.0 xs s (near one.0 one.1) one.2

ends : (x y n : ℕ) (xs : List ℕ) → (eqb x star && eqb y slash) ≡ true → Some 2 ≡ Some n → Closed 0 n (x ∷ y ∷ xs)
ends x y n xs t e =
    let two : 2 ≡ n = cc in
    let both = and_parts (eqb x star) (eqb y slash) t in
    let there : Rest (x ∷ y ∷ []) = subst₂ (λ u v. Rest (u ∷ v ∷ [])) (sym (eqb-true x star both.0)) (sym (eqb-true y slash both.1)) close in
    subst (λ j. Closed 0 j (x ∷ y ∷ xs)) two (record { rests = there; within = omega arith })

closes : (d x y n : ℕ) (xs : List ℕ) → (eqb x star && eqb y slash) ≡ true → ((m : ℕ) → closing d xs ≡ Some m → Closed d m xs) → further (further (closing d xs)) ≡ Some n → Closed (suc d) n (x ∷ y ∷ xs)
closes d x y n xs t far e =
    let one = further_some (further (closing d xs)) n e in
    let two = further_some (closing d xs) one.0 one.1 in
    let m = two.0 in
    let k = far m two.1 in
    let long : suc (suc m) ≡ n = omega (arith, one.2, two.2) in
    let both = and_parts (eqb x star) (eqb y slash) t in
    let there : Rest (x ∷ y ∷ []) = subst₂ (λ u v. Rest (u ∷ v ∷ [])) (sym (eqb-true x star both.0)) (sym (eqb-true y slash both.1)) close in
    subst (λ j. Closed (suc d) j (x ∷ y ∷ xs)) long (record { rests = (x ∷ y ∷ [], take m xs, there, k.rests, refl); within = omega (arith, k.within) })

step_outer : (x y n : ℕ) (xs : List ℕ) (a b : Bool) → (eqb x star && eqb y slash) ≡ a → (eqb x slash && eqb y star) ≡ b → ((d m : ℕ) → closing d xs ≡ Some m → Closed d m xs) → ((m : ℕ) → closing 0 (y ∷ xs) ≡ Some m → Closed 0 m (y ∷ xs)) → cond a (Some 2) (cond b (further (further (closing 1 xs))) (further (closing 0 (y ∷ xs)))) ≡ Some n → Closed 0 n (x ∷ y ∷ xs)
step_outer x y n xs true b p q far near e = ends x y n xs p e
step_outer x y n xs false true p q far near e = opens 0 x y n xs q (far 1) e
step_outer x y n xs false false p q far near e = goes_on 0 x y n xs (or_from (eqb x star && eqb y slash) (eqb x slash && eqb y star) p q) near e

step_inner : (d x y n : ℕ) (xs : List ℕ) (a b : Bool) → (eqb x star && eqb y slash) ≡ a → (eqb x slash && eqb y star) ≡ b → ((d m : ℕ) → closing d xs ≡ Some m → Closed d m xs) → ((m : ℕ) → closing (suc d) (y ∷ xs) ≡ Some m → Closed (suc d) m (y ∷ xs)) → cond a (further (further (closing d xs))) (cond b (further (further (closing (suc (suc d)) xs))) (further (closing (suc d) (y ∷ xs)))) ≡ Some n → Closed (suc d) n (x ∷ y ∷ xs)
step_inner d x y n xs true b p q far near e = closes d x y n xs p (far d) e
step_inner d x y n xs false true p q far near e = opens (suc d) x y n xs q (far (suc (suc d))) e
step_inner d x y n xs false false p q far near e = goes_on (suc d) x y n xs (or_from (eqb x star && eqb y slash) (eqb x slash && eqb y star) p q) near e

pub closed : (xs : List ℕ) (d n : ℕ) → closing d xs ≡ Some n → Closed d n xs
closed [] d n e = let z : ◌≡◌ {A = ℕ} 0 1 = cc in absurd (omega arith)
closed (x ∷ []) d n e = let z : ◌≡◌ {A = ℕ} 0 1 = cc in absurd (omega arith)
closed (x ∷ y ∷ xs) zero n e =
    step_outer x y n xs (eqb x star && eqb y slash) (eqb x slash && eqb y star) refl refl (λ d m. closed xs d m) (λ m. closed (y ∷ xs) 0 m) e
closed (x ∷ y ∷ xs) (suc d) n e =
    step_inner d x y n xs (eqb x star && eqb y slash) (eqb x slash && eqb y star) refl refl (λ d m. closed xs d m) (λ m. closed (y ∷ xs) (suc d) m) e
