-- The scan for the end of a block comment, by what is left to read. Assumes nothing.
use Rattle.std.proofs.Common.{◌≡◌, ℕ, zero, suc, ◌+◌, ◌-◌, ◌<◌, ◌≤◌, true, false, eqb, ◌≢◌, List, [], ◌∷◌, length, get_or, take, drop, Some, None, sym, refl, ap, ◌∙◌, ap₂, subst, ⊎_elim, arith}
use Rattle.std.proofs.lemmas.List.{take_rest, drop-drop, get_or-drop}
use Rattle.std.proofs.lemmas.Bool.{and_parts, and_from, or_from, eqb-true, eq-eqb, cases_Bool}
use Rattle.scanner.specs.Grammar.{slash, star, begins}
use Rattle.scanner.specs.Comments.{further, closing}
use Rattle.scanner.proofs.Steps.{plus, plus_some, plus_none, plus_plus, single_step}

-- a text that begins with two characters, neither of them the default
pub begun : (a b : ℕ) (xs : List ℕ) → a ≢ 0 → b ≢ 0 → begins a b xs ≡ true → xs ≡ a ∷ b ∷ drop 2 xs
begun a b [] n m e = absurd (n (sym (eqb-true 0 a (and_parts (eqb 0 a) (eqb 0 b) e).0)))
begun a b (x ∷ []) n m e = absurd (m (sym (eqb-true 0 b (and_parts (eqb x a) (eqb 0 b) e).1)))
begun a b (x ∷ y ∷ ys) n m e =
    let both = and_parts (eqb x a) (eqb y b) e in
    ap₂ (λ u v. u ∷ v ∷ ys) (eqb-true x a both.0) (eqb-true y b both.1)

pub closes_now : (xs : List ℕ) → begins star slash xs ≡ true → xs ≡ star ∷ slash ∷ drop 2 xs
closes_now xs e = begun star slash xs (omega arith) (omega arith) e

pub opens_now : (xs : List ℕ) → begins slash star xs ≡ true → xs ≡ slash ∷ star ∷ drop 2 xs
opens_now xs e = begun slash star xs (omega arith) (omega arith) e

-- what is left behind two bytes, one after the other
abbrev pub behind : List ℕ → List ℕ
behind xs = take (length xs - 1) (drop 1 xs)

pub two_left : (xs : List ℕ) → behind (behind xs) ≡ drop 2 xs
two_left xs = take_rest (behind xs) 1 ∙ ap (drop 1) (take_rest xs 1) ∙ drop-drop 1 1 xs

next_left : (xs : List ℕ) → get_or (behind xs) 0 0 ≡ get_or xs 1 0
next_left xs = ap (λ z. get_or z 0 0) (take_rest xs 1) ∙ get_or-drop 1 xs 0 0

pub begins_yes : (a b : ℕ) (xs : List ℕ) → get_or xs 0 0 ≡ a → get_or (behind xs) 0 0 ≡ b → begins a b xs ≡ true
begins_yes a b xs e f = and_from (eqb (get_or xs 0 0) a) (eqb (get_or xs 1 0) b) (eq-eqb (get_or xs 0 0) a e) (eq-eqb (get_or xs 1 0) b (sym (next_left xs) ∙ f))

pub begins_no : (a b : ℕ) (xs : List ℕ) → (get_or xs 0 0 ≡ a → get_or (behind xs) 0 0 ≡ b → ⊥) → begins a b xs ≡ false
begins_no a b xs n =
    ⊎_elim
    (λ (e : begins a b xs ≡ true).
    let both = and_parts (eqb (get_or xs 0 0) a) (eqb (get_or xs 1 0) b) e in
    absurd (n (eqb-true (get_or xs 0 0) a both.0) (next_left xs ∙ eqb-true (get_or xs 1 0) b both.1)))
    (λ (e : begins a b xs ≡ false). e)
    (cases_Bool (begins a b xs))

-- the bytes that were read, and what is left: its answer gives the text's
pub record Scan (text rest : List ℕ) (depth : ℕ) : Type 0 where
  pub passed : ℕ
  pub whole : passed + length rest ≡ length text
  pub deep : depth ≤ passed
  pub same : plus passed (closing depth rest) ≡ closing 0 text

pub scan_never : (text rest : List ℕ) (d : ℕ) → length rest < 1 → Scan text rest d → None ≡ closing 0 text
scan_never text [] d l s = sym (plus_none s.passed) ∙ s.same
scan_never text (x ∷ xs) d l s = absurd (omega arith)

pub scan_last : (text rest tail : List ℕ) (d : ℕ) → begins star slash rest ≡ true → tail ≡ drop 2 rest → d ≡ 0 → Scan text rest d → Some (length text - length tail) ≡ closing 0 text
scan_last text rest tail d e t z s =
    let here = closes_now rest e in
    let long : length rest ≡ suc (suc (length (drop 2 rest))) = ap length here in
    let now : closing d rest ≡ Some 2 = ap₂ closing z here in
    let count : length text - length tail ≡ s.passed + 2 = omega (arith, s.whole, ap length t) in
    ap Some count ∙ sym (plus_some s.passed 2) ∙ ap (plus s.passed) (sym now) ∙ s.same

scan_two : (text rest tail : List ℕ) (d e : ℕ) (s : Scan text rest d) → length rest ≡ suc (suc (length tail)) → e ≤ s.passed + 2 → closing d rest ≡ further (further (closing e tail)) → Scan text tail e
scan_two text rest tail d e s long deep now = record {
  passed = s.passed + 2;
  whole = omega (arith, s.whole);
  deep = deep;
  same = sym (plus_plus s.passed 2 (closing e tail)) ∙ ap (plus s.passed) (sym now) ∙ s.same;
}

closing_back : (d : ℕ) (xs : List ℕ) → d ≢ 0 → closing d (star ∷ slash ∷ xs) ≡ further (further (closing (d - 1) xs))
closing_back zero xs n = absurd (n refl)
closing_back (suc d) xs n = ap (λ k. further (further (closing k xs))) (let e : d ≡ suc d - 1 = omega arith in e)

pub scan_close : (text rest tail : List ℕ) (d : ℕ) → begins star slash rest ≡ true → tail ≡ drop 2 rest → d ≢ 0 → Scan text rest d → Scan text tail (d - 1)
scan_close text rest tail d e t n s =
    let here : rest ≡ star ∷ slash ∷ tail = closes_now rest e ∙ ap (λ z. star ∷ slash ∷ z) (sym t) in
    scan_two text rest tail d (d - 1) s (ap length here) (omega (arith, s.deep)) (ap (closing d) here ∙ closing_back d tail n)

closing_in : (d : ℕ) (xs : List ℕ) → closing d (slash ∷ star ∷ xs) ≡ further (further (closing (d + 1) xs))
closing_in zero xs = refl
closing_in (suc d) xs = ap (λ k. further (further (closing k xs))) (let e : suc (suc d) ≡ suc d + 1 = omega arith in e)

pub scan_open : (text rest tail : List ℕ) (d : ℕ) → begins slash star rest ≡ true → tail ≡ drop 2 rest → Scan text rest d → Scan text tail (d + 1)
scan_open text rest tail d e t s =
    let here : rest ≡ slash ∷ star ∷ tail = opens_now rest e ∙ ap (λ z. slash ∷ star ∷ z) (sym t) in
    scan_two text rest tail d (d + 1) s (ap length here) (omega (arith, s.deep)) (ap (closing d) here ∙ closing_in d tail)

closing_pass : (d x : ℕ) (xs : List ℕ) → begins star slash (x ∷ xs) ≡ false → begins slash star (x ∷ xs) ≡ false → closing d (x ∷ xs) ≡ further (closing d xs)
closing_pass d x [] n m = refl
closing_pass d x (y ∷ xs) n m = single_step d x y xs (or_from (begins star slash (x ∷ y ∷ xs)) (begins slash star (x ∷ y ∷ xs)) n m)

pub scan_pass : (text rest tail : List ℕ) (d : ℕ) → begins star slash rest ≡ false → begins slash star rest ≡ false → 1 ≤ length rest → tail ≡ drop 1 rest → Scan text rest d → Scan text tail d
scan_pass text [] tail d n m l t s = absurd (omega arith)
scan_pass text (x ∷ xs) tail d n m l t s =
    subst (λ z. Scan text z d) (sym t)
    (record {
      passed = s.passed + 1;
      whole = omega (arith, s.whole);
      deep = omega (arith, s.deep);
      same = sym (plus_plus s.passed 1 (closing d xs)) ∙ ap (plus s.passed) (sym (closing_pass d x xs n m)) ∙ s.same;
    })
