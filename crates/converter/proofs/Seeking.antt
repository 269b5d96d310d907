-- Bytes that stand somewhere in a text.
use Rattle.std.proofs.Common.{◌≡◌, ℕ, zero, suc, ◌+◌, ◌-◌, ◌<◌, ◌≤◌, min, Bool, true, false, ◌&&◌, ◌||◌, eqb, ltb, List, [], ◌∷◌, length, get_or, take, drop, Some, None, Option, sym, refl, ap, ◌∙◌, subst, ⊎_elim, arith, lt-ltb, le-ltb}
use Rattle.std.proofs.lemmas.Bool.{cases_lt}
use Rattle.std.proofs.lemmas.List.{take_all, length-drop}
use Rattle.std.proofs.Math.Bool.{and-false, and-true}
use Rattle.std.proofs.Math.ListN.{drop_of_length-le}
use Rattle.std.proofs.Math.Seq.{drop-cons, take-nil}
use Rattle.std.specs.Fn.{Called}
use Rattle.std.specs.Iterator.{Yields, ChecksAny}
use Rattle.std.specs.List.{FoldsTo}
use Rattle.std.specs.Prelude.{MatchOption}
use Rattle.std.specs.Slice.{IsGetRangeResult}
use Rattle.std.specs.Slice.Iter.{windows_rest, windows_size, windows_steps}
use Rattle.std.specs.declared.slice.Windows.{Windows}
use Rattle.std.specs.Borrow.{Bor}
use Rattle.std.specs.Str.{bytes_eq}
use denote.Param.Members.{Mut}
use Rattle.converter.specs.Hints.{One, Two, stands, any_from, telling, somewhere, tells}

differs : (a b : List ℕ) → length a < length b → bytes_eq a b ≡ false
differs [] [] h = absurd (omega arith)
differs [] (y ∷ ys) h = refl
differs (x ∷ xs) [] h = absurd (omega arith)
differs (x ∷ xs) (y ∷ ys) h = ap (λ t. eqb x y && t) (differs xs ys (omega arith)) ∙ and-false (eqb x y)

module _ (what : List ℕ) (some : 0 < length what) where
  step : (l : List ℕ) → length what ≤ length l → somewhere what l ≡ (bytes_eq (take (length what) l) what || somewhere what (drop 1 l))
  step [] h = absurd (omega arith)
  step (x ∷ l) h = refl

  short : (l : List ℕ) → length l < length what → somewhere what l ≡ false
  short [] h = refl
  short (x ∷ l) h =
      ap (λ w. bytes_eq w what || somewhere what l) (take_all (length what) (x ∷ l) (omega arith))
      ∙ ap (λ b. b || somewhere what l) (differs (x ∷ l) what h) ∙ short l (omega arith)

  look : (s s' : Windows ℕ) (x : Bor (List ℕ)) (b : Bool) → windows_steps s (Some x) s' → windows_size s ≡ length what → b ≡ bytes_eq x.now what
      → somewhere what (windows_rest s) ≡ (b || somewhere what (windows_rest s'))
  look s s' x b (same, (fits, is, rest, long)) size e =
      step (windows_rest s) (omega (arith, fits, size))
      ∙ ap (λ n. bytes_eq (take n (windows_rest s)) what || somewhere what (drop 1 (windows_rest s))) (sym size)
      ∙ ap (λ w. bytes_eq w what || somewhere what (drop 1 (windows_rest s))) (sym is)
      ∙ ap (λ c. c || somewhere what (drop 1 (windows_rest s))) (sym e)
      ∙ ap (λ l. b || somewhere what l) (sym rest)

  module _ {F : Type 0} (g : Mut F (Bor (List ℕ) × Unit {0}) Bool) where
    -- a call says whether the window is what is sought, and leaves the closure as it was
    abbrev Gives : F → Type 0
    Gives f = (w : Bor (List ℕ)) (b : Bool) (q : F) → Called g f (w, tt) b q → (q ≡ f) × (b ≡ bytes_eq w.now what)

    passed : (s : Windows ℕ) (f f' : F) (t : Windows ℕ) (xs : List (Bor (List ℕ))) → Gives f → windows_size s ≡ length what
        → Yields windows_steps s xs t → FoldsTo (λ p x q. Called g p (x, tt) false q) f xs f'
        → (windows_size t ≡ length what) × (somewhere what (windows_rest s) ≡ somewhere what (windows_rest t)) × (f' ≡ f)
    passed s f f' t [] calls size y h = (ap windows_size (sym y) ∙ size, ap (λ z. somewhere what (windows_rest z)) y, sym h)
    passed s f f' t (x ∷ xs) calls size (s', first, y) (f'', call, h) =
        let c = calls x false f'' call in
        let rest = passed s' f'' f' t xs (subst Gives (sym c.0) calls) (first.0 ∙ size) y h in
        (rest.0, look s s' x false first size c.1 ∙ rest.1, rest.2 ∙ c.0)

    pub found : (s : Windows ℕ) (f : F) (r : Bool) (u : Windows ℕ) (text : List ℕ) → Gives f → windows_size s ≡ length what → windows_rest s ≡ text
        → ChecksAny windows_steps g s f r u → r ≡ somewhere what text
    found s f r u text calls size is (xs, None, f', (t, y, last), folds, end) =
        let a = passed s f f' t xs calls size y folds in
        end ∙ sym (short (windows_rest t) (omega (arith, last.1.0, a.0))) ∙ sym a.1 ∙ ap (somewhere what) is
    found s f r u text calls size is (xs, Some x, f', (t, y, last), folds, (true_is, (h, call))) =
        let a = passed s f f' t xs calls size y folds in
        let c = calls x true h (subst (λ k. Called g k (x, tt) true h) a.2 call) in
        true_is ∙ sym (look t u x true last a.0 c.1) ∙ sym a.1 ∙ ap (somewhere what) is

-- places of the script, and the text at them
module _ (bs : List ℕ) (end : ℕ) where
  past_one : (a n i : ℕ) → length bs ≤ i → any_from (stands bs end (One a)) n i ≡ false
  past_one a zero i l = refl
  past_one a (suc n) i l = ap (λ b. (b && eqb (get_or bs i 0) a) || any_from (stands bs end (One a)) n (i + 1)) (le-ltb i (length bs) l) ∙ past_one a n (i + 1) (omega arith)

  past_two : (a b n i : ℕ) → length bs ≤ i → any_from (stands bs end (Two a b)) n i ≡ false
  past_two a b zero i l = refl
  past_two a b (suc n) i l =
      ap (λ t. (ltb (i + 1) end && (t && (eqb (get_or bs i 0) a && eqb (get_or bs (i + 1) 0) b))) || any_from (stands bs end (Two a b)) n (i + 1)) (le-ltb (i + 1) (length bs) (omega arith))
      ∙ ap (λ t. t || any_from (stands bs end (Two a b)) n (i + 1)) (and-false (ltb (i + 1) end)) ∙ past_two a b n (i + 1) (omega arith)

  none_past : (what : List ℕ) (n i : ℕ) → length bs ≤ i → somewhere what (take n (drop i bs)) ≡ false
  none_past what n i l = ap (λ z. somewhere what (take n z)) (drop_of_length-le bs l) ∙ ap (somewhere what) (take-nil n)

  here : (n i : ℕ) → i < length bs → take (suc n) (drop i bs) ≡ get_or bs i 0 ∷ take n (drop (i + 1) bs)
  here n i l = let one : suc i ≡ i + 1 = omega arith in ap (take (suc n)) (drop-cons bs i 0 l) ∙ ap (λ k. get_or bs i 0 ∷ take n (drop k bs)) one

  one_at : (a n i : ℕ) → any_from (stands bs end (One a)) n i ≡ somewhere (a ∷ []) (take n (drop i bs))
  one_at a zero i = refl
  one_at a (suc n) i =
      let x = get_or bs i 0 in
      let rest = somewhere (a ∷ []) (take n (drop (i + 1) bs)) in
      ⊎_elim
      (λ lt.
      ap (λ b. (b && eqb x a) || any_from (stands bs end (One a)) n (i + 1)) (lt-ltb i (length bs) lt)
      ∙ ap (λ r. eqb x a || r) (one_at a n (i + 1))
      ∙ ap (λ t. t || rest) (sym (and-true (eqb x a)))
      ∙ ap (somewhere (a ∷ [])) (sym (here n i lt)))
      (λ ge. past_one a (suc n) i ge ∙ sym (none_past (a ∷ []) (suc n) i ge)) (cases_lt i (length bs))

  -- two bytes at the front of what is left
  front_two : (a b n i : ℕ) → end - i ≡ suc n
      → (ltb (i + 1) end && (ltb (i + 1) (length bs) && (eqb (get_or bs i 0) a && eqb (get_or bs (i + 1) 0) b)))
      ≡ bytes_eq (take 2 (get_or bs i 0 ∷ take n (drop (i + 1) bs))) (a ∷ b ∷ [])
  front_two a b zero i e = ap (λ t. t && (ltb (i + 1) (length bs) && (eqb (get_or bs i 0) a && eqb (get_or bs (i + 1) 0) b))) (le-ltb (i + 1) end (omega arith)) ∙ sym (and-false (eqb (get_or bs i 0) a))
  front_two a b (suc n) i e =
      let x = get_or bs i 0 in
      let y = get_or bs (i + 1) 0 in
      ap (λ t. t && (ltb (i + 1) (length bs) && (eqb x a && eqb y b))) (lt-ltb (i + 1) end (omega arith))
      ∙ ⊎_elim
      (λ lt.
      ap (λ t. t && (eqb x a && eqb y b)) (lt-ltb (i + 1) (length bs) lt)
      ∙ ap (λ t. eqb x a && t) (sym (and-true (eqb y b)))
      ∙ ap (λ z. bytes_eq (take 2 (x ∷ z)) (a ∷ b ∷ [])) (sym (here n (i + 1) lt)))
      (λ ge.
      ap (λ t. t && (eqb x a && eqb y b)) (le-ltb (i + 1) (length bs) ge)
      ∙ sym (and-false (eqb x a))
      ∙ ap (λ z. bytes_eq (take 2 (x ∷ take (suc n) z)) (a ∷ b ∷ [])) (sym (drop_of_length-le bs ge))) (cases_lt (i + 1) (length bs))

  two_at : (a b n i : ℕ) → end - i ≡ n → any_from (stands bs end (Two a b)) n i ≡ somewhere (a ∷ b ∷ []) (take n (drop i bs))
  two_at a b zero i e = refl
  two_at a b (suc n) i e =
      ⊎_elim
      (λ lt.
      ap (λ t. t || any_from (stands bs end (Two a b)) n (i + 1)) (front_two a b n i e)
      ∙ ap (λ r. bytes_eq (take 2 (get_or bs i 0 ∷ take n (drop (i + 1) bs))) (a ∷ b ∷ []) || r) (two_at a b n (i + 1) (omega arith))
      ∙ ap (somewhere (a ∷ b ∷ [])) (sym (here n i lt)))
      (λ ge. past_two a b (suc n) i ge ∙ sym (none_past (a ∷ b ∷ []) (suc n) i ge)) (cases_lt i (length bs))

  told : (start : ℕ) → telling bs start end ≡ tells (take (end - start) (drop start bs))
  told start =
      let n = end - start in
      let t = take n (drop start bs) in
      ap (λ x. x && (any_from (stands bs end (Two 0x2F 0x2F)) n start || any_from (stands bs end (Two 0x3B 0x0A)) n start)) (one_at 0x28 n start)
      ∙ ap (λ x. somewhere (0x28 ∷ []) t && (x || any_from (stands bs end (Two 0x3B 0x0A)) n start)) (two_at 0x2F 0x2F n start refl)
      ∙ ap (λ x. somewhere (0x28 ∷ []) t && (somewhere (0x2F ∷ 0x2F ∷ []) t || x)) (two_at 0x3B 0x0A n start refl)

  -- as the code has it, from the part that was asked for
  pub part_tells : (start hi : ℕ) (o : Option (Bor (List ℕ))) (r : Bool) (P : Bor (List ℕ) → Type 0) → hi ≡ min end (length bs) → IsGetRangeResult bs start hi o
      → MatchOption o (r ≡ false) P → ((x : Bor (List ℕ)) → P x → r ≡ tells x.now) → r ≡ telling bs start end
  part_tells start hi None r P at part answer calls =
      let nothing : tells (take (end - start) (drop start bs)) ≡ false =
      ⊎_elim (λ lt. let z : end - start ≡ 0 = omega arith in ap (λ k. tells (take k (drop start bs))) z)
      (λ ge. let far : length bs ≤ start = ⊎_elim (λ l. omega arith) (λ l. omega arith) part.0 in ap (λ z. tells (take (end - start) z)) (drop_of_length-le bs far) ∙ ap tells (take-nil (end - start))) (cases_lt end start) in
      answer ∙ sym nothing ∙ sym (told start)
  part_tells start hi (Some x) r P at part answer calls =
      let same : take (hi - start) (drop start bs) ≡ take (end - start) (drop start bs) =
      ⊎_elim (λ lt. let k : hi - start ≡ end - start = omega arith in ap (λ j. take j (drop start bs)) k)
      (λ ge. take_all (hi - start) (drop start bs) (omega (arith, length-drop start bs)) ∙ sym (take_all (end - start) (drop start bs) (omega (arith, length-drop start bs)))) (cases_lt end (length bs)) in
      calls x answer ∙ ap tells (part.0.2 ∙ same) ∙ sym (told start)
