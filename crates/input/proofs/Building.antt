-- The entries for the first tokens, and one token more.
use Rattle.std.proofs.Common.{◌≡◌, ℕ, ◌+◌, ◌-◌, ◌<◌, ◌≤◌, true, false, cond, not, ◌&&◌, eqb, ltb, Some, None, List, [], ◌∷◌, ◌++◌, map, length, take, drop, MatchBool, sym, refl, ap, ◌∙◌, subst, inl, inr, arith}
use Rattle.std.proofs.lemmas.List.FromFn.{filter_of_map_range_with_len_more}
use Rattle.std.proofs.lemmas.List.{append-nil, map_push, map-id, drop-drop, length_push, length-map, take-append-drop}
use Rattle.std.proofs.lemmas.Bool.{cases_Bool}
use Rattle.std.proofs.lemmas.Bool.Decides.{when_true, when_false, nat_tests}
use Rattle.syntax_kind.specs.Editions.{edition_number}
use Rattle.syntax_kind.specs.declared.editions.Edition.{Edition}
use Rattle.syntax_kind.specs.Trivia.{trivial}
use Rattle.lexed_str.specs.Columns.{tokens, kind_at}
use Rattle.input.specs.declared.token.Token.{Token}
use Rattle.input.specs.Marks.{marks, words}
use Rattle.input.specs.Columns.{Columns, bare}
use Rattle.input.specs.Pushes.{roomy, Longer, Grown}
use Rattle.input.specs.Tokens.{solid, kept, contextual_at, adjoins, joint_at}
use Rattle.input.specs.Seen.{kind_after, Sees, contextual_of, adjoined, joint_of}
use Rattle.input.specs.Building.{spacious, over, Built}

-- the first n values of a column are those of f at the numbers given, and the others are as before
pub record Column (f : ℕ → ℕ) (is old new : List ℕ) (n : ℕ) : Type 0 where
  pub front : take n new ≡ map f is
  pub rest : drop n new ≡ drop n old
  pub long : length new ≡ length old

drop_further : (xs ys : List ℕ) (m n : ℕ) → m ≤ n → drop m xs ≡ drop m ys → drop n xs ≡ drop n ys
drop_further xs ys m n l e =
    let d : m + (n - m) ≡ n = omega arith in
    ap (λ k. drop k xs) (sym d) ∙ sym (drop-drop (n - m) m xs) ∙ ap (drop (n - m)) e ∙ drop-drop (n - m) m ys ∙ ap (λ k. drop k ys) d

column_more : (f : ℕ → ℕ) (is old cur new : List ℕ) (n i : ℕ) → Column f is old cur n → Longer (f i) n cur new → Column f (is ++ i ∷ []) old new (n + 1)
column_more f is old cur new n i h l =
    record {
      front = l.front ∙ ap (λ xs. xs ++ f i ∷ []) h.front ∙ sym (map_push f is i);
      rest = l.rest ∙ drop_further cur old n (n + 1) (omega arith) h.rest;
      long = l.long ∙ h.long;
    }

column_done : (f : ℕ → ℕ) (is old new : List ℕ) (n : ℕ) → Column f is old new n → n ≡ length is → new ≡ over (map f is) old
column_done f is old new n h e =
    sym (take-append-drop n new)
    ∙ ap (λ xs. xs ++ drop n new) h.front
    ∙ ap (λ xs. map f is ++ xs) h.rest
    ∙ ap (λ k. map f is ++ drop k old) (e ∙ sym (length-map is f))

-- what the loop keeps: the entries for the first i tokens, where the columns were `old` before it
pub record Sofar (bs ks ss : List ℕ) (edition : ℕ) (old : Columns) (i : ℕ) (c : Columns) : Type 0 where
  pub len : c.len ≡ length (kept ks i)
  pub few : c.len ≤ i
  pub kinds : Column (kind_at ks) (kept ks i) old.kinds c.kinds c.len
  pub contextual : Column (contextual_at bs ks ss edition) (kept ks i) old.contextual c.contextual c.len
  pub editions : Column (λ _. edition) (kept ks i) old.editions c.editions c.len
  pub marks : marks c.joint c.len ≡ map (joint_at bs ks ss) (kept ks i)
  pub rest : drop (words c.len) c.joint ≡ drop (words c.len) old.joint
  pub long : length c.joint ≡ length old.joint

column_none : (f : ℕ → ℕ) (old : List ℕ) → Column f [] old old 0
column_none f old = record { front = refl; rest = refl; long = refl }

pub sofar_none : (bs ks ss : List ℕ) (edition : ℕ) (old : Columns) → Sofar bs ks ss edition old 0 (bare old.kinds old.joint old.contextual old.editions)
sofar_none bs ks ss edition old =
    record {
      len = refl;
      few = omega arith;
      kinds = column_none (kind_at ks) old.kinds;
      contextual = column_none (contextual_at bs ks ss edition) old.contextual;
      editions = column_none (λ _. edition) old.editions;
      marks = refl;
      rest = refl;
      long = refl;
    }

-- the numbers of one token more
kept_more : (ks : List ℕ) (i : ℕ) → kept ks (i + 1) ≡ kept ks i ++ cond (solid ks i) (i ∷ []) []
kept_more ks i = simp map-id at (filter_of_map_range_with_len_more (solid ks) (λ x. x) 0 i i (omega arith))

kept_one : (ks : List ℕ) (i : ℕ) → solid ks i ≡ true → kept ks (i + 1) ≡ kept ks i ++ i ∷ []
kept_one ks i e = rw e at (kept_more ks i)

kept_none : (ks : List ℕ) (i : ℕ) → solid ks i ≡ false → kept ks (i + 1) ≡ kept ks i
kept_none ks i e = rw (e, append-nil) at (kept_more ks i)

-- a token that is no trivia
sofar_one : (bs ks ss : List ℕ) (edition : ℕ) (old : Columns) (i : ℕ) (c d : Columns) → solid ks i ≡ true
    → Grown (kind_at ks i) (contextual_at bs ks ss edition i) edition (joint_at bs ks ss i) c d
    → Sofar bs ks ss edition old i c → Sofar bs ks ss edition old (i + 1) d
sofar_one bs ks ss edition old i c d e g h =
    let is = kept ks i in
    let one = kept_one ks i e in
    record {
      len = rw (g.len, one, length_push, h.len) refl;
      few = omega (arith, g.len, h.few);
      kinds = rw (g.len, one) (column_more (kind_at ks) is _ _ _ _ i h.kinds g.kinds);
      contextual = rw (g.len, one) (column_more (contextual_at bs ks ss edition) is _ _ _ _ i h.contextual g.contextual);
      editions = rw (g.len, one) (column_more (λ _. edition) is _ _ _ _ i h.editions g.editions);
      marks = rw (one, map_push, ← h.marks) g.marks;
      rest = g.rest ∙ drop_further c.joint old.joint (words c.len) (words d.len) (omega (arith, g.len)) h.rest;
      long = g.long ∙ h.long;
    }

-- trivia
sofar_skip : (bs ks ss : List ℕ) (edition : ℕ) (old : Columns) (i : ℕ) (c : Columns) → solid ks i ≡ false
    → Sofar bs ks ss edition old i c → Sofar bs ks ss edition old (i + 1) c
sofar_skip bs ks ss edition old i c e h =
    let none = kept_none ks i e in
    record {
      len = rw none h.len;
      few = omega (arith, h.few);
      kinds = rw none h.kinds;
      contextual = rw none h.contextual;
      editions = rw none h.editions;
      marks = rw none h.marks;
      rest = h.rest;
      long = h.long;
    }

-- the mark of a token that is seen is that of its number
adjoined_at : (ks : List ℕ) (i : ℕ) → adjoined (kind_after ks i) ≡ adjoins ks (i + 1)
adjoined_at ks i =
    elim (ltb (i + 1) (tokens ks)) as (λ b. adjoined (cond b (Some (kind_at ks (i + 1))) None) ≡ (b && (solid ks (i + 1) && not (eqb (kind_at ks (i + 1)) 153)))) [
      | true ↦ refl
      | false ↦ refl
    ]

seen_grown : (bs ks ss : List ℕ) (edition : Edition) (i : ℕ) (t : Token) (c d : Columns) → Sees bs ks ss i t
    → Grown t.kind (contextual_of t edition) (edition_number edition) (joint_of t) c d
    → Grown (kind_at ks i) (contextual_at bs ks ss (edition_number edition) i) (edition_number edition) (joint_at bs ks ss i) c d
seen_grown bs ks ss edition i t c d s g = rw (s.kind, s.text, s.next, adjoined_at ks i) at g

-- one turn
pub sofar_more : (bs ks ss : List ℕ) (edition : Edition) (old : Columns) (i : ℕ) (t : Token) (c d : Columns) → Sees bs ks ss i t
    → MatchBool (trivial t.kind) (d ≡ c) (Grown t.kind (contextual_of t edition) (edition_number edition) (joint_of t) c d)
    → Sofar bs ks ss (edition_number edition) old i c → Sofar bs ks ss (edition_number edition) old (i + 1) d
sofar_more bs ks ss edition old i t c d s w h =
    elim (cases_Bool (trivial t.kind)) [
      | inl e ↦
          subst (Sofar bs ks ss (edition_number edition) old (i + 1)) (sym (when_true _ _ e w))
          (sofar_skip bs ks ss (edition_number edition) old i c (ap (λ k. not (trivial k)) (sym s.kind) ∙ ap not e) h)
      | inr e ↦
          sofar_one bs ks ss (edition_number edition) old i c d (ap (λ k. not (trivial k)) (sym s.kind) ∙ ap not e)
          (seen_grown bs ks ss edition i t c d s (when_false _ _ e w)) h
    ]

-- there is room for the next
pub sofar_roomy : (bs ks ss : List ℕ) (edition : ℕ) (old : Columns) (i n : ℕ) (c : Columns) → i < n → spacious n old ≡ true
    → Sofar bs ks ss edition old i c → roomy c ≡ true
sofar_roomy bs ks ss edition old i n c l s h = grind (arith, nat_tests, h.few, h.kinds.long, h.contextual.long, h.editions.long, h.long)

-- all tokens
pub sofar_built : (bs ks ss : List ℕ) (edition : ℕ) (old c : Columns) → Sofar bs ks ss edition old (tokens ks) c → Built bs ks ss edition old c
sofar_built bs ks ss edition old c h =
    let is = kept ks (tokens ks) in
    record {
      len = h.len;
      kinds = column_done (kind_at ks) is old.kinds c.kinds c.len h.kinds h.len;
      contextual = column_done (contextual_at bs ks ss edition) is old.contextual c.contextual c.len h.contextual h.len;
      editions = column_done (λ _. edition) is old.editions c.editions c.len h.editions h.len;
      marks = h.marks;
      rest = h.rest;
    }
