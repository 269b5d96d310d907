-- No other columns keep the law of lexing.
use Rattle.std.proofs.Common.{◌≡◌, ℕ, zero, suc, ◌+◌, ◌<◌, ◌≤◌, true, ltb, List, [], ◌∷◌, ◌++◌, length, get_or, take, sym, ap, ◌∙◌, ⊎_elim, arith, ltb-true}
use Rattle.std.proofs.lemmas.List.{get_or-take, ext_get_or}
use Rattle.std.proofs.lemmas.Bool.{and_parts, cases_lt}
use Rattle.script.specs.Places.{boundary}
use Rattle.raw.specs.Answers.{begins}
use Rattle.lexed_str.specs.declared.error.LexError.{LexError}
use Rattle.converter.specs.Lexing.{kind_at, end_at, head_of}
use Rattle.converter.specs.Lexes.{errors_up_to, Lexes}
use Rattle.converter.specs.Meaning.{Meaning}

-- lists with the same front have the same entries there
same_front : (xs ys front : List ℕ) (n i : ℕ) → take n xs ≡ front → take n ys ≡ front → i < n → get_or xs i 0 ≡ get_or ys i 0
same_front xs ys front n i a b l = sym (get_or-take n xs i 0 l) ∙ ap (λ z. get_or z i 0) (a ∙ sym b) ∙ get_or-take n ys i 0 l

pub before_end : (bs : List ℕ) (p : ℕ) → begins bs p ≡ true → p < length bs
before_end bs p e = ltb-true p (length bs) (and_parts (ltb p (length bs)) (boundary bs p) e).0

module _ (m : Meaning) (edition n n' : ℕ) (ks ss ks' ss' : List ℕ) (es es' : List LexError) (x : Lexes m edition n ks ss es) (y : Lexes m edition n' ks' ss' es') where
  start_step : (i : ℕ) → suc i ≤ n → suc i ≤ n' → get_or ss i 0 ≡ get_or ss' i 0 → get_or ss (suc i) 0 ≡ get_or ss' (suc i) 0
  start_step i l l' e =
      let h = length (head_of m).kinds in
      let one : suc i ≡ i + 1 = omega arith in
      ⊎_elim (λ lt. same_front ss ss' ((head_of m).starts ++ (head_of m).place ∷ []) (h + 1) (suc i) x.head_starts y.head_starts (omega arith))
      (λ ge. ap (λ k. get_or ss k 0) one ∙ (x.each i ge l).next ∙ ap (end_at m edition) e ∙ sym (y.each i ge l').next ∙ ap (λ k. get_or ss' k 0) (sym one)) (cases_lt i h)

  starts_same : (i : ℕ) → i ≤ n → i ≤ n' → get_or ss i 0 ≡ get_or ss' i 0
  starts_same zero l l' = same_front ss ss' ((head_of m).starts ++ (head_of m).place ∷ []) (length (head_of m).kinds + 1) 0 x.head_starts y.head_starts (omega arith)
  starts_same (suc i) l l' = start_step i l l' (starts_same i (omega arith) (omega arith))

  no_longer : n < n' → ⊥
  no_longer l =
      let there = before_end m.script (get_or ss' n 0) (y.each n x.head_within l).there in
      omega (arith, there, x.end_start, starts_same n (omega arith) (omega arith))

  kinds_at : n ≡ n' → (i : ℕ) → i < n + 1 → get_or ks i 0 ≡ get_or ks' i 0
  kinds_at e i l =
      let h = length (head_of m).kinds in
      ⊎_elim (λ lt. same_front ks ks' (head_of m).kinds h i x.head_kinds y.head_kinds lt)
      (λ ge. ⊎_elim
      (λ lt. (x.each i ge lt).kind ∙ ap (kind_at m edition) (starts_same i (omega arith) (omega arith)) ∙ sym (y.each i ge (omega arith)).kind)
      (λ at. let here : i ≡ n = omega arith in
      let there : i ≡ n' = omega arith in
      ap (λ k. get_or ks k 0) here ∙ x.end_kind ∙ sym y.end_kind ∙ ap (λ k. get_or ks' k 0) (sym there)) (cases_lt i n)) (cases_lt i h)

  same_by : n ≡ n' → (n ≡ n') × (ks ≡ ks') × (ss ≡ ss') × (es ≡ es')
  same_by e =
      let k : ks ≡ ks' = ext_get_or 0 ks ks' (omega (arith, x.kinds_long, y.kinds_long)) (λ i l. kinds_at e i (omega (arith, x.kinds_long))) in
      let s : ss ≡ ss' = ext_get_or 0 ss ss' (omega (arith, x.starts_long, y.starts_long)) (λ i l. starts_same i (omega (arith, x.starts_long)) (omega (arith, x.starts_long))) in
      let h = length (head_of m).kinds in
      (e, k, s, x.errors ∙ ap (λ z. errors_up_to m edition h z ss n) k ∙ ap (λ z. errors_up_to m edition h ks' z n) s ∙ ap (errors_up_to m edition h ks' ss') e ∙ sym y.errors)

pub lexes_only : (m : Meaning) (edition n n' : ℕ) (ks ss ks' ss' : List ℕ) (es es' : List LexError) → Lexes m edition n ks ss es → Lexes m edition n' ks' ss' es' → (n ≡ n') × (ks ≡ ks') × (ss ≡ ss') × (es ≡ es')
lexes_only m edition n n' ks ss ks' ss' es es' x y =
    let up : n' ≤ n = ⊎_elim (λ l. absurd (no_longer m edition n n' ks ss ks' ss' es es' x y l)) (λ l. l) (cases_lt n n') in
    let down : n ≤ n' = ⊎_elim (λ l. absurd (no_longer m edition n' n ks' ss' ks ss es' es y x l)) (λ l. l) (cases_lt n' n) in
    same_by m edition n n' ks ss ks' ss' es es' x y (omega arith)
