-- What the entries for all tokens are, in the words of the law.
use Rattle.std.proofs.Common.{◌≡◌, ℕ, ◌+◌, ◌-◌, ◌<◌, ◌≤◌, Bool, false, not, ◌&&◌, eqb, ◌⊎◌, List, [], ◌∷◌, ◌++◌, map, length, get_or, take, Decides, filter, sym, refl, ap, ◌∙◌, inl, inr, arith}
use Rattle.std.specs.List.{range_with_len}
use Rattle.std.proofs.lemmas.List.FromFn.{fill_by_all, get_or-map-range_with_len}
use Rattle.std.proofs.lemmas.List.{take_more, take_all, get_or_push, get_or_past, length_push, get_or-map, get_or-take, length-take-le}
use Rattle.std.proofs.lemmas.Bool.{cases_Bool, cases_eq, eqb-true, eq-eqb}
use Rattle.std.proofs.lemmas.Bool.Decides.{Decides-at, nat_tests}
use Rattle.syntax_kind.specs.Trivia.{trivial}
use Rattle.lexed_str.specs.Columns.{tokens, kind_at}
use Rattle.lexed_str.specs.Reading.{texts}
use Rattle.input.specs.Marks.{marked, marks}
use Rattle.input.specs.Columns.{Columns}
use Rattle.input.specs.Tokens.{kept, ends_in_dot, joint_at}
use Rattle.input.specs.Joints.{Dotted, Fraction, Parting, Adjoined, Reads}
use Rattle.input.proofs.Building.{Sofar}

-- a text that ends in a dot
dotted : (text : List ℕ) → Decides (ends_in_dot text) (Dotted text)
dotted text = (
  (λ e.
      let last = eqb-true (get_or text (length text - 1) 0) 46 e in
      let some : 0 < length text = grind (arith, get_or_past text (length text - 1) 0) in
      let back : length text - 1 + 1 ≡ length text = omega arith in (
        take (length text - 1) text,
        sym (take_all (length text) text (omega arith))
            ∙ ap (λ n. take n text) (sym back)
            ∙ take_more text (length text - 1) 0 (omega arith)
            ∙ ap (λ x. take (length text - 1) text ++ x ∷ []) last,
      )),
  (λ d.
      let n : length text ≡ length d.0 + 1 = ap length d.1 ∙ length_push d.0 46 in
      eq-eqb (get_or text (length text - 1) 0) 46 (ap (λ xs. get_or xs (length text - 1) 0) d.1 ∙ get_or_push d.0 46 0 (length text - 1) (omega arith))),
)

-- what parts one token from another
parting : (k : ℕ) → Decides (not (trivial k) && not (eqb k 153)) (Parting k → ⊥)
parting k = ((λ e p. grind (arith, nat_tests)), (λ n. grind (arith, nat_tests)))

-- which tokens are joint
joint : (bs ks ss : List ℕ) (i : ℕ) → Decides (joint_at bs ks ss i) (Fraction bs ks ss i ⊎ Adjoined ks i)
joint bs ks ss i =
    let k = kind_at ks i in
    let d = dotted (texts bs ss i (i + 1)) in
    let p = parting (kind_at ks (i + 1)) in (
      (λ e. elim (cases_eq k 147) [
        | inl f ↦ inl (f, (λ h. grind (arith, nat_tests, d.1 h)))
        | inr n ↦ inr (n, (λ h. grind (arith, nat_tests)), grind (arith, nat_tests), p.0 (grind (arith, nat_tests)))
      ]),
      (λ h. elim h [
        | inl a ↦ grind (arith, nat_tests, a.1, d.0)
        | inr a ↦ grind (arith, nat_tests, p.1 a.3)
      ]),
    )

-- no identifier is
ident_apart : (bs ks ss : List ℕ) (i : ℕ) → kind_at ks i ≡ 153 → joint_at bs ks ss i ≡ false
ident_apart bs ks ss i e = grind (arith, nat_tests)

-- a filter of what a function gives
kept_map : (f : ℕ → ℕ) (p : ℕ → Bool) (xs : List ℕ) → map f (filter (λ x. p (f x)) xs) ≡ filter p (map f xs)
kept_map f p [] = refl
kept_map f p (x ∷ xs) =
    elim (cases_Bool (p (f x))) [
      | inl e ↦ rw e (ap (λ ys. f x ∷ ys) (kept_map f p xs))
      | inr e ↦ rw e (kept_map f p xs)
    ]

front_kinds : (ks : List ℕ) (n : ℕ) → n ≤ length ks → take n ks ≡ map (kind_at ks) (range_with_len 0 n)
front_kinds ks n l =
    fill_by_all (kind_at ks) (take n ks) n 0 (length-take-le n ks l) (λ k u. get_or-take n ks k 0 u)

-- the mark and the kind of entry n are those of its token
entry_mark : (js is : List ℕ) (g : ℕ → Bool) (len n : ℕ) → len ≡ length is → n < len → marks js len ≡ map g is → marked js n ≡ g (get_or is n 0)
entry_mark js is g len n e l h =
    sym (get_or-map-range_with_len (marked js) 0 len n n false l (omega arith))
    ∙ ap (λ ms. get_or ms n false) h
    ∙ get_or-map g is n 0 false (omega arith)

entry_kind : (xs is : List ℕ) (f : ℕ → ℕ) (len n : ℕ) → len ≡ length is → n < len → take len xs ≡ map f is → get_or xs n 0 ≡ f (get_or is n 0)
entry_kind xs is f len n e l h =
    sym (get_or-take len xs n 0 l) ∙ ap (λ ys. get_or ys n 0) h ∙ get_or-map f is n 0 0 (omega arith)

pub sofar_reads : (bs ks ss : List ℕ) (edition : ℕ) (old c : Columns) → Sofar bs ks ss edition old (tokens ks) c → Reads bs ks ss c
sofar_reads bs ks ss edition old c h =
    let is = kept ks (tokens ks) in
    record {
      kinds =
          h.kinds.front
          ∙ kept_map (kind_at ks) (λ k. not (trivial k)) (range_with_len 0 (tokens ks))
          ∙ ap (filter (λ k. not (trivial k))) (sym (front_kinds ks (tokens ks) (omega arith)));
      joint = λ n l.
          Decides-at (marked c.joint n) (joint_at bs ks ss (get_or is n 0))
          (entry_mark c.joint is (joint_at bs ks ss) c.len n h.len l h.marks)
          (joint bs ks ss (get_or is n 0));
      apart = λ n l e.
          entry_mark c.joint is (joint_at bs ks ss) c.len n h.len l h.marks
          ∙ ident_apart bs ks ss (get_or is n 0) (sym (entry_kind c.kinds is (kind_at ks) c.len n h.len l h.kinds.front) ∙ e);
    }
