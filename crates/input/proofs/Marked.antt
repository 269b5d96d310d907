-- The words of joint marks, after one begins and after a bit is set.
use Rattle.std.proofs.Common.{◌≡◌, ℕ, ◌+◌, ◌/◌, ◌%◌, ◌^◌, ◌<◌, Bool, true, false, cond, eqb, ◌≢◌, List, [], ◌∷◌, ◌++◌, length, get_or, set, sym, refl, ap, ◌∙◌, subst, inl, inr, arith}
use native.Mathlib.Nat.{div-eq_of_lt}
use Rattle.std.proofs.lemmas.Nat.{pow_pos, pow_below}
use Rattle.std.proofs.lemmas.List.FromFn.{map-range_with_len_more, length-map-range_with_len, get_or-map-range_with_len, fill_by_all}
use Rattle.std.proofs.lemmas.List.{get_or-set_same, get_or-set_other, set_at}
use Rattle.std.proofs.lemmas.Bool.{cases_eq, cond_both, eqb-true, eqb-false}
use Rattle.std.proofs.lemmas.Bool.Decides.{nat_tests}
use Rattle.input.specs.Marks.{marked, marks, clear, raised}
use Rattle.input.proofs.Bits.{raised_same, raised_other, raised_lt}

marks_same : (js js' : List ℕ) (n : ℕ) → ((k : ℕ) → k < n → marked js' k ≡ marked js k) → marks js' n ≡ marks js n
marks_same js js' n h =
    fill_by_all (marked js) (marks js' n) n false (length-map-range_with_len (marked js') 0 n)
    (λ k l. get_or-map-range_with_len (marked js') 0 n k k false l (omega arith) ∙ h k l)

-- one mark more, where the others are as they were
marks_more : (js js' : List ℕ) (n : ℕ) (b : Bool) → ((k : ℕ) → k < n → marked js' k ≡ marked js k) → marked js' n ≡ b
    → marks js' (n + 1) ≡ marks js n ++ b ∷ []
marks_more js js' n b h e =
    map-range_with_len_more (marked js') 0 n n (omega arith)
    ∙ ap (λ x. marks js' n ++ x ∷ []) e
    ∙ ap (λ xs. xs ++ b ∷ []) (marks_same js js' n h)

-- a word of another entry
word_other : (js : List ℕ) (w v k : ℕ) → k / 64 ≢ w → marked (set js w v) k ≡ marked js k
word_other js w v k ne = ap (λ x. eqb (x / 2 ^ (k % 64) % 2) 1) (get_or-set_other js w (k / 64) v 0 ne)

-- when no mark is set past entry n
clear_word : (js : List ℕ) (n : ℕ) → n % 64 ≢ 0 → clear js n ≡ true → get_or js (n / 64) 0 < 2 ^ (n % 64)
clear_word js n ne h = grind (arith, nat_tests)

clear_last : (js : List ℕ) (n : ℕ) → (n + 1) % 64 ≢ 0 → clear js (n + 1) ≡ true → get_or js (n / 64) 0 < 2 ^ (n % 64 + 1)
clear_last js n ne h = grind (arith, nat_tests)

clear_next : (js : List ℕ) (n : ℕ) → ((n + 1) % 64 ≢ 0 → get_or js (n / 64) 0 < 2 ^ (n % 64 + 1)) → clear js (n + 1) ≡ true
clear_next js n h = grind (arith, nat_tests)

-- the words where entry n is about to come
abbrev pub begun : List ℕ → ℕ → List ℕ
begun js n = cond (eqb (n % 64) 0) (set js (n / 64) 0) js

begun_word : (js : List ℕ) (n : ℕ) → n / 64 < length js → clear js n ≡ true → get_or (begun js n) (n / 64) 0 < 2 ^ (n % 64)
begun_word js n l h =
    cond_both (eqb (n % 64) 0) (set js (n / 64) 0) js (λ xs. get_or xs (n / 64) 0 < 2 ^ (n % 64))
    (λ _. omega (arith, get_or-set_same js (n / 64) 0 0 l, pow_pos (n % 64)))
    (λ e. clear_word js n (eqb-false (n % 64) 0 e) h)

pub begun_clear : (js : List ℕ) (n : ℕ) → n / 64 < length js → clear js n ≡ true → clear (begun js n) (n + 1) ≡ true
begun_clear js n l h =
    clear_next (begun js n) n (λ _. omega (arith, begun_word js n l h, pow_below (n % 64) (n % 64 + 1) (omega arith)))

begun_kept : (js : List ℕ) (n k : ℕ) → k < n → marked (begun js n) k ≡ marked js k
begun_kept js n k u =
    cond_both (eqb (n % 64) 0) (set js (n / 64) 0) js (λ xs. marked xs k ≡ marked js k)
    (λ e. let first = eqb-true (n % 64) 0 e in word_other js (n / 64) 0 k (λ same. omega arith))
    (λ _. refl)

pub begun_marks : (js : List ℕ) (n : ℕ) → n / 64 < length js → clear js n ≡ true → marks (begun js n) (n + 1) ≡ marks js n ++ false ∷ []
begun_marks js n l h =
    marks_more js (begun js n) n false (begun_kept js n) (ap (λ x. eqb (x % 2) 1) (div-eq_of_lt (begun_word js n l h)))

-- the words with entry n marked
abbrev pub with_mark : List ℕ → ℕ → List ℕ
with_mark js n = set js (n / 64) (raised (get_or js (n / 64) 0) (n % 64))

mark_word : (js : List ℕ) (n : ℕ) → n / 64 < length js → get_or (with_mark js n) (n / 64) 0 ≡ raised (get_or js (n / 64) 0) (n % 64)
mark_word js n l = get_or-set_same js (n / 64) (raised (get_or js (n / 64) 0) (n % 64)) 0 l

pub mark_clear : (js : List ℕ) (n : ℕ) → n / 64 < length js → clear js (n + 1) ≡ true → clear (with_mark js n) (n + 1) ≡ true
mark_clear js n l h =
    clear_next (with_mark js n) n
    (λ ne. subst (λ x. x < 2 ^ (n % 64 + 1)) (sym (mark_word js n l)) (raised_lt (get_or js (n / 64) 0) (n % 64) (clear_last js n ne h)))

mark_set : (js : List ℕ) (n : ℕ) → n / 64 < length js → marked (with_mark js n) n ≡ true
mark_set js n l =
    ap (λ x. eqb (x / 2 ^ (n % 64) % 2) 1) (mark_word js n l)
    ∙ ap (λ x. eqb x 1) (raised_same (get_or js (n / 64) 0) (n % 64))

mark_kept : (js : List ℕ) (n k : ℕ) → n / 64 < length js → k ≢ n → marked (with_mark js n) k ≡ marked js k
mark_kept js n k l ne =
    elim (cases_eq (k / 64) (n / 64)) [
      | inl same ↦
          ap (λ w. eqb (get_or (with_mark js n) w 0 / 2 ^ (k % 64) % 2) 1) same
          ∙ ap (λ x. eqb (x / 2 ^ (k % 64) % 2) 1) (mark_word js n l)
          ∙ ap (λ x. eqb x 1) (raised_other (get_or js (n / 64) 0) (n % 64) (k % 64) (λ e. ne (omega arith)))
          ∙ ap (λ w. eqb (get_or js w 0 / 2 ^ (k % 64) % 2) 1) (sym same)
      | inr other ↦ word_other js (n / 64) (raised (get_or js (n / 64) 0) (n % 64)) k other
    ]

pub mark_marks : (js : List ℕ) (n : ℕ) → n / 64 < length js → marks (with_mark js n) (n + 1) ≡ set (marks js (n + 1)) n true
mark_marks js n l =
    let before = marks_more js js n (marked js n) (λ k u. refl) refl in
    let after = marks_more js (with_mark js n) n true (λ k u. mark_kept js n k l (λ e. omega arith)) (mark_set js n l) in
    after
    ∙ sym (ap (λ xs. set xs n true) before ∙ set_at (marks js n) (marked js n) [] true n (length-map-range_with_len (marked js) 0 n))
