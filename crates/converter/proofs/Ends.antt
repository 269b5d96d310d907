-- Lexing comes to the script's end, and what it gives then keeps the law of lexing.
use Rattle.std.proofs.Common.{◌≡◌, ℕ, zero, suc, ◌+◌, ◌-◌, ◌≤◌, Bool, true, false, cond, ltb, List, [], ◌∷◌, ◌++◌, map, length, get_or, Some, None, Option, sym, refl, ap, ◌∙◌, subst, arith, ltb-false, ltb-true, lt-ltb}
use Rattle.std.proofs.lemmas.List.{append-nil, length-append, take_all, take-append-le}
use Rattle.script.specs.Admission.{admits}
use Rattle.script.specs.Places.{boundary}
use Rattle.script.proofs.Bounds.{boundary_start}
use Rattle.frontmatter.specs.Parsed.{parsed}
use Rattle.frontmatter.proofs.Right.{sound}
use Rattle.raw.specs.Answers.{begins}
use Rattle.raw.specs.Laws.{keeps, shebang_keeps}
use Rattle.converter.specs.declared.progress.Head.{Head}
use Rattle.converter.specs.Columns.{HeadFits, EndsPast, end_or}
use Rattle.converter.specs.Lexing.{Lexed, lex_error, kind_at, cut_at, codes_at, extend, extend_all, head_ends, head, head_of, lexed}
use Rattle.converter.specs.Lexes.{Given, errors_at, errors_up_to, Lexes}
use Rattle.converter.specs.Meaning.{Meaning}
use Rattle.converter.specs.Names.{EOF}
use Rattle.converter.specs.Outcome.{kinds_of, starts_of}
use Rattle.converter.proofs.Cutting.{Stands, cut_stands}
use Rattle.converter.proofs.Extending.{begins_there}
use Rattle.converter.proofs.Heads.{heads}
use Rattle.converter.proofs.Rows.{Rows, rows_more, given_more, errors_more, last_of}

-- what a source owes, of its meaning
pub record Lawful (m : Meaning) : Type 0 where
  pub admitted : admits m.script ≡ true
  pub tokens : (p : ℕ) → begins m.script p ≡ true → keeps m.script p (m.token p) (length (m.faults p)) ≡ true
  pub shebangs : shebang_keeps m.script m.shebang ≡ true

-- columns that have come up to a boundary, with no more tokens than bytes
pub record Fit (m : Meaning) (l : Lexed) : Type 0 where
  pub on : boundary m.script l.place ≡ true
  pub within : l.place ≤ length m.script
  pub few : length l.kinds ≤ l.place

module _ (m : Meaning) (edition : ℕ) (w : Lawful m) where
  pub stands_at : (p : ℕ) → begins m.script p ≡ true → Stands m.script p (cut_at m edition p) (length (m.faults p))
  stands_at p on = cut_stands m.script p w.admitted edition (m.token p) (length (m.faults p)) (w.tokens p on)

  fit_more : (l : Lexed) → Fit m l → begins m.script l.place ≡ true → Fit m (extend m edition l)
  fit_more l f on =
      let s = stands_at l.place on in
      record { on = s.ends; within = s.within; few = omega (arith, s.some, f.few, length-append l.kinds (kind_at m edition l.place ∷ [])) }

  -- from columns that reach up to a place, to the end
  record Done (l : Lexed) : Type 0 where
    rows : Rows m edition l
    fit : Fit m l
    end : l.place ≡ length m.script

  mutual_step : (k : ℕ) (l : Lexed) (b : Bool) → ltb l.place (length m.script) ≡ b → Rows m edition l → Fit m l → length m.script ≤ suc k + length l.kinds
      → ((l' : Lexed) → Rows m edition l' → Fit m l' → length m.script ≤ k + length l'.kinds → Done (extend_all m edition k l'))
      → Done (cond b (extend_all m edition k (extend m edition l)) l)
  mutual_step k l true e r f few again =
      let on = begins_there m.script l.place (ltb-true l.place (length m.script) e) f.on in
      again (extend m edition l) (rows_more m edition l r on) (fit_more l f on) (omega (arith, length-append l.kinds (kind_at m edition l.place ∷ [])))
  mutual_step k l false e r f few again = record { rows = r; fit = f; end = omega (arith, ltb-false l.place (length m.script) e, f.within) }

  all_done : (k : ℕ) (l : Lexed) → Rows m edition l → Fit m l → length m.script ≤ k + length l.kinds → Done (extend_all m edition k l)
  all_done zero l r f few = record { rows = r; fit = f; end = omega (arith, f.within, f.few) }
  all_done (suc k) l r f few = mutual_step k l (ltb l.place (length m.script)) refl r f few (all_done k)

  head_fit_by : (h : Head) → HeadFits m.script h → Fit m (head h)
  head_fit_by h f = head_fit h.shebang h.frontmatter f.shebang f.frontmatter where
    head_fit : (a b : Option ℕ) → EndsPast m.script 0 a → EndsPast m.script (end_or 0 a) b → Fit m (head (record { shebang = a; frontmatter = b }))
    head_fit None None x y = record { on = boundary_start m.script w.admitted; within = omega arith; few = omega arith }
    head_fit None (Some e) x y = record { on = y.2; within = y.1; few = omega (arith, y.0) }
    head_fit (Some e) None x y = record { on = x.2; within = x.1; few = omega (arith, x.0) }
    head_fit (Some e) (Some e') x y = record { on = y.2; within = y.1; few = omega (arith, x.0, y.0) }

  pub the_head : HeadFits m.script (head_ends (parsed m.script) m.shebang)
  the_head = heads m.script w.admitted (parsed m.script) m.shebang (sound m.script) w.shebangs

  head_same : (a b : Option ℕ) → length (head (record { shebang = a; frontmatter = b })).starts ≡ length (head (record { shebang = a; frontmatter = b })).kinds
  head_same None None = refl
  head_same None (Some e) = refl
  head_same (Some e) None = refl
  head_same (Some e) (Some e') = refl

  head_silent : (a b : Option ℕ) → (head (record { shebang = a; frontmatter = b })).errors ≡ []
  head_silent None None = refl
  head_silent None (Some e) = refl
  head_silent (Some e) None = refl
  head_silent (Some e) (Some e') = refl

  none_of_head : (h : ℕ) (ks ss : List ℕ) (n : ℕ) → n ≤ h → errors_up_to m edition h ks ss n ≡ []
  none_of_head h ks ss zero l = refl
  none_of_head h ks ss (suc n) l =
      ap (λ x. x ++ errors_at m edition h ks ss n) (none_of_head h ks ss n (omega arith)) ∙ ap (λ b. cond b [] (map (lex_error n) (codes_at m edition ks ss n (get_or ss n 0)))) (lt-ltb n h l)

  rows_head : Rows m edition (head_of m)
  rows_head =
      let a = (head_ends (parsed m.script) m.shebang).shebang in
      let b = (head_ends (parsed m.script) m.shebang).frontmatter in
      let l = head_of m in
      let h = length l.kinds in
      record {
        same = head_same a b;
        head_kinds = take_all h l.kinds (omega arith);
        head_starts = take_all (h + 1) (l.starts ++ l.place ∷ []) (omega (arith, length-append l.starts (l.place ∷ []), head_same a b));
        head_within = omega arith;
        each = λ i lo hi. absurd (omega arith);
        errors = head_silent a b ∙ sym (none_of_head h l.kinds (l.starts ++ l.place ∷ []) h (omega arith));
      }

  lexed_done : Done (lexed m edition)
  lexed_done = all_done (length m.script - length (head_of m).kinds) (head_of m) rows_head (head_fit_by _ the_head) (omega arith)

  -- the law of lexing
  pub lexes : Lexes m edition (length (lexed m edition).kinds) (kinds_of (lexed m edition)) (starts_of (lexed m edition)) (lexed m edition).errors
  lexes =
      let l = lexed m edition in
      let d = lexed_done in
      let r = d.rows in
      let n = length l.kinds in
      let h = length (head_of m).kinds in
      let ss = starts_of l in
      let long : length ss ≡ n + 1 = omega (arith, length-append l.starts (l.place ∷ []), r.same) in
      record {
        kinds_long = length-append l.kinds (EOF ∷ []);
        starts_long = long;
        head_kinds = take-append-le h l.kinds (EOF ∷ []) r.head_within ∙ r.head_kinds;
        head_starts = r.head_starts;
        head_within = r.head_within;
        each = λ i lo hi. subst (λ x. Given m edition (kinds_of l) x i) (append-nil ss) (given_more m edition l.kinds ss (EOF ∷ []) [] i hi (omega arith) (r.each i lo hi));
        end_kind = last_of m edition l.kinds EOF 0 n refl;
        end_start = last_of m edition l.starts l.place 0 n r.same ∙ d.end;
        errors = r.errors ∙ sym (errors_more m edition h l.kinds ss (EOF ∷ []) [] n (omega arith) (omega arith)) ∙ ap (λ x. errors_up_to m edition h (kinds_of l) x n) (append-nil ss);
      }
