-- What lexing gives may be offered for reading.
use Rattle.std.proofs.Common.{◌≡◌, ℕ, zero, suc, ◌+◌, ◌-◌, ◌<◌, ◌≤◌, true, ◌&&◌, ltb, leb, ◌⊎◌, List, [], ◌∷◌, ◌++◌, map, length, get_or, Some, None, Option, sym, refl, ap, ◌∙◌, subst, inl, inr, ⊎_elim, arith}
use Rattle.std.proofs.lemmas.List.{get_or-take, get_or_append_left, get_or-append-add, length-append}
use Rattle.std.proofs.lemmas.Bool.{and_parts, cases_lt, cond_both}
use Rattle.script.specs.Places.{boundary}
use Rattle.script.proofs.Bounds.{boundary_start}
use Rattle.raw.specs.Forms.{form}
use Rattle.raw.specs.Laws.{spelled}
use Rattle.lexed_str.specs.declared.error.LexError.{LexError}
use Rattle.lexed_str.specs.Columns.{Columns, token_at}
use Rattle.converter.specs.Columns.{EndsPast, end_or}
use Rattle.converter.specs.Lexing.{lex_error, text_at, codes_at, head, head_ends, head_of}
use Rattle.converter.specs.Lexes.{Given, errors_at, errors_up_to, Lexes}
use Rattle.converter.specs.Meaning.{Meaning}
use Rattle.converter.proofs.Ends.{Lawful, stands_at, the_head}
use Rattle.converter.proofs.Proper.{Proper, cut_proper}
use Rattle.frontmatter.specs.Parsed.{parsed}

abbrev none : LexError
none = record { token = 0; code = 0 }

mapped_token : (i : ℕ) (cs : List ℕ) (k : ℕ) → k < length (map (lex_error i) cs) → token_at (map (lex_error i) cs) k ≡ i
mapped_token i [] k l = absurd (omega arith)
mapped_token i (c ∷ cs) zero l = refl
mapped_token i (c ∷ cs) (suc k) l = mapped_token i cs k (omega arith)

module _ (m : Meaning) (edition h : ℕ) (ks ss : List ℕ) where
  at_token : (i k : ℕ) → k < length (errors_at m edition h ks ss i) → token_at (errors_at m edition h ks ss i) k ≡ i
  at_token i k = cond_both (ltb i h) [] (map (lex_error i) (codes_at m edition ks ss i (get_or ss i 0))) (λ es. k < length es → token_at es k ≡ i) (λ _ l. absurd (omega arith)) (λ _ l. mapped_token i (codes_at m edition ks ss i (get_or ss i 0)) k l)

  -- an error of the first n + 1 tokens is one of the first n, or of token n
  split_token : (n k : ℕ) → k < length (errors_up_to m edition h ks ss (suc n))
      → ((k < length (errors_up_to m edition h ks ss n)) × (token_at (errors_up_to m edition h ks ss (suc n)) k ≡ token_at (errors_up_to m edition h ks ss n) k))
      ⊎ ((length (errors_up_to m edition h ks ss n) ≤ k) × (token_at (errors_up_to m edition h ks ss (suc n)) k ≡ n))
  split_token n k l =
      let xs = errors_up_to m edition h ks ss n in
      let ys = errors_at m edition h ks ss n in
      ⊎_elim (λ lt. inl (lt, ap (λ (e : LexError). e.token) (get_or_append_left xs ys none k lt)))
      (λ ge. let j : k ≡ length xs + (k - length xs) = omega arith in
      inr (ge, ap (λ i. token_at (xs ++ ys) i) j ∙ ap (λ (e : LexError). e.token) (get_or-append-add xs ys (k - length xs) none) ∙ at_token n (k - length xs) (omega (arith, length-append xs ys)))) (cases_lt k (length xs))

  pub tokens_below : (n k : ℕ) → k < length (errors_up_to m edition h ks ss n) → token_at (errors_up_to m edition h ks ss n) k < n
  tokens_below zero k l = absurd (omega arith)
  tokens_below (suc n) k l = ⊎_elim (λ x. omega (arith, x.1, tokens_below n k x.0)) (λ x. omega (arith, x.1)) (split_token n k l)

  pub tokens_rise : (n j k : ℕ) → j ≤ k → k < length (errors_up_to m edition h ks ss n) → token_at (errors_up_to m edition h ks ss n) j ≤ token_at (errors_up_to m edition h ks ss n) k
  tokens_rise zero j k le l = absurd (omega arith)
  tokens_rise (suc n) j k le l =
      ⊎_elim (λ y. ⊎_elim (λ x. omega (arith, x.1, y.1, tokens_rise n j k le y.0)) (λ x. absurd (omega (arith, x.0, y.0))) (split_token n j (omega arith)))
      (λ y. ⊎_elim (λ x. omega (arith, x.1, y.1, tokens_below n j x.0)) (λ x. omega (arith, x.1, y.1)) (split_token n j (omega arith))) (split_token n k l)

-- a token of the columns: its kind, and where it starts and ends
pub record Row (bs ks ss : List ℕ) (i : ℕ) : Type 0 where
  pub proper : Proper (get_or ks i 0)
  pub rises : get_or ss i 0 < get_or ss (suc i) 0
  pub whole : boundary bs (get_or ss i 0) ≡ true

head_row : (bs : List ℕ) → boundary bs 0 ≡ true → (a b : Option ℕ) → EndsPast bs 0 a → EndsPast bs (end_or 0 a) b
    → (i : ℕ) → i < length (head (record { shebang = a; frontmatter = b })).kinds
    → Row bs (head (record { shebang = a; frontmatter = b })).kinds ((head (record { shebang = a; frontmatter = b })).starts ++ (head (record { shebang = a; frontmatter = b })).place ∷ []) i
head_row bs on None None x y i l = absurd (omega arith)
head_row bs on None (Some e) x y zero l = record { proper = (omega arith, omega arith); rises = y.0; whole = on }
head_row bs on None (Some e) x y (suc i) l = absurd (omega arith)
head_row bs on (Some e) None x y zero l = record { proper = (omega arith, omega arith); rises = x.0; whole = on }
head_row bs on (Some e) None x y (suc i) l = absurd (omega arith)
head_row bs on (Some e) (Some e') x y zero l = record { proper = (omega arith, omega arith); rises = x.0; whole = on }
head_row bs on (Some e) (Some e') x y (suc zero) l = record { proper = (omega arith, omega arith); rises = y.0; whole = x.2 }
head_row bs on (Some e) (Some e') x y (suc (suc i)) l = absurd (omega arith)

head_zero : (a b : Option ℕ) → get_or ((head (record { shebang = a; frontmatter = b })).starts ++ (head (record { shebang = a; frontmatter = b })).place ∷ []) 0 0 ≡ 0
head_zero None None = refl
head_zero None (Some e) = refl
head_zero (Some e) None = refl
head_zero (Some e) (Some e') = refl

module _ (m : Meaning) (edition n : ℕ) (ks ss : List ℕ) (es : List LexError) (w : Lawful m) (x : Lexes m edition n ks ss es) where
  given_row : (i : ℕ) → Given m edition ks ss i → Row m.script ks ss i
  given_row i g =
      let p = get_or ss i 0 in
      let s = stands_at m edition w p g.there in
      let t = m.token p in
      let k = and_parts (ltb 0 t.len && (leb (p + t.len) (length m.script) && boundary m.script (p + t.len))) (spelled m.script p t.len (form t.kind) && leb (length (m.faults p)) t.len) (w.tokens p g.there) in
      let sp = (and_parts (spelled m.script p t.len (form t.kind)) (leb (length (m.faults p)) t.len) k.1).0 in
      let one : suc i ≡ i + 1 = omega arith in
      record {
        proper = subst Proper (sym g.kind) (cut_proper edition (text_at m edition p) m.script p t sp);
        rises = omega (arith, s.some, ap (λ j. get_or ss j 0) one, g.next);
        whole = (and_parts (ltb p (length m.script)) (boundary m.script p) g.there).1;
      }

  start_of_head : (i : ℕ) → i < length (head_of m).kinds + 1 → get_or ((head_of m).starts ++ (head_of m).place ∷ []) i 0 ≡ get_or ss i 0
  start_of_head i l = ap (λ z. get_or z i 0) (sym x.head_starts) ∙ get_or-take (length (head_of m).kinds + 1) ss i 0 l

  kind_of_head : (i : ℕ) → i < length (head_of m).kinds → get_or (head_of m).kinds i 0 ≡ get_or ks i 0
  kind_of_head i l = ap (λ z. get_or z i 0) (sym x.head_kinds) ∙ get_or-take (length (head_of m).kinds) ks i 0 l

  row : (i : ℕ) → i < n → Row m.script ks ss i
  row i l =
      let h = head_ends (parsed m.script) m.shebang in
      let f = the_head m edition w in
      ⊎_elim (λ lt.
      let r = head_row m.script (boundary_start m.script w.admitted) h.shebang h.frontmatter f.shebang f.frontmatter i lt in
      let a = start_of_head i (omega arith) in
      record {
        proper = subst Proper (kind_of_head i lt) r.proper;
        rises = omega (arith, r.rises, a, start_of_head (suc i) (omega arith));
        whole = ap (boundary m.script) (sym a) ∙ r.whole;
      })
      (λ ge. given_row i (x.each i ge l)) (cases_lt i (length (head_of m).kinds))

  pub readable : Columns m.script ks ss es
  readable =
      let h = head_ends (parsed m.script) m.shebang in
      let count : length ks - 1 ≡ n = omega (arith, x.kinds_long) in
      record {
        same = omega (arith, x.kinds_long, x.starts_long);
        known = λ i l. ⊎_elim (λ lt. (row i lt).proper.1) (λ ge. let at : i ≡ n = omega (arith, x.kinds_long) in omega (arith, ap (λ j. get_or ks j 0) at, x.end_kind)) (cases_lt i n);
        inner = λ i l e. let lt : i < n = omega arith in omega (arith, (row i lt).proper.0, e);
        closes = ap (λ j. get_or ks j 0) count ∙ x.end_kind;
        begins = sym (start_of_head 0 (omega arith)) ∙ head_zero h.shebang h.frontmatter;
        rises = λ i l. let lt : i < n = omega arith in let one : suc i ≡ i + 1 = omega arith in omega (arith, (row i lt).rises, ap (λ j. get_or ss j 0) one);
        whole = λ i l. let lt : i < n = omega arith in (row i lt).whole;
        ends = ap (λ j. get_or ss j 0) count ∙ x.end_start;
        names = λ k l. omega (arith, count, ap (λ z. token_at z k) x.errors, tokens_below m edition (length (head_of m).kinds) ks ss n k (subst (λ z. k < length z) x.errors l));
        ascends = λ j k le l. omega (arith, ap (λ z. token_at z k) x.errors, ap (λ z. token_at z j) x.errors, tokens_rise m edition (length (head_of m).kinds) ks ss n j k le (subst (λ z. k < length z) x.errors l));
      }
