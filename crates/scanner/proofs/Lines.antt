-- Line comments by the grammar. Assumes nothing.
use Rattle.std.proofs.Common.{◌≡◌, ℕ, zero, suc, ◌+◌, ◌≤◌, Bool, true, false, cond, not, ◌&&◌, eqb, ◌≢◌, List, [], ◌∷◌, ◌++◌, length, get_or, take, drop, Some, None, sym, refl, ap, ◌∙◌, subst, ap₂, ⊎_elim, arith}
use Rattle.std.specs.List.{prefix_len}
use Rattle.raw.specs.declared.kinds.DocStyle.TheVariants.{Inner, Outer}
use Rattle.raw.specs.declared.kinds.RawKind.TheVariants.{LineComment}
use Rattle.std.proofs.lemmas.Bool.{true≢false, eqb-true, eqb-false, eq-eqb, ne_eqb, cases_eq}
use Rattle.scanner.specs.Grammar.{slash, bang, lf, Form, line_comment, inner_line_doc, outer_line_doc, is_block, InLine, Comment, bare, line, slashes, inner_line, outer_line, empty, empty_star, block, stars, around, inner_block, outer_block}
use Rattle.scanner.specs.Comments.{in_line, line_style}
use Rattle.scanner.specs.Reading.{kind_of, LineEnds, Stands, Follows}

-- the bytes up to the end of a line: none of them ends it, and then it ends
pub record Line (n : ℕ) (xs : List ℕ) : Type 0 where
  pub within : n ≤ length xs
  pub front : InLine (take n xs)
  pub ends : LineEnds (drop n xs)

line_step : (x : ℕ) (xs : List ℕ) (n : ℕ) (b : Bool) → eqb x lf ≡ b → Line n xs → Line (cond (not b) (1 + n) 0) (x ∷ xs)
line_step x xs n true e l = record { within = omega arith; front = tt; ends = eqb-true x lf e }
line_step x xs n false e l =
    let one : suc n ≡ 1 + n = omega arith in
    subst (λ k. Line k (x ∷ xs)) one (record { within = omega (arith, l.within); front = (eqb-false x lf e, l.front); ends = l.ends })

pub line_of : (xs : List ℕ) → Line (prefix_len in_line xs) xs
line_of [] = record { within = omega arith; front = tt; ends = tt }
line_of (x ∷ xs) = line_step x xs (prefix_len in_line xs) (eqb x lf) refl (line_of xs)

-- and no other length is such
ends_none : (ys : List ℕ) → LineEnds ys → prefix_len in_line ys ≡ 0
ends_none [] e = refl
ends_none (y ∷ ys) e = ap (λ b. cond (not b) (1 + prefix_len in_line ys) 0) (eq-eqb y lf e)

pub line_long : (t ys : List ℕ) → InLine t → LineEnds ys → prefix_len in_line (t ++ ys) ≡ length t
line_long [] ys i e = ends_none ys e
line_long (x ∷ t) ys i e =
    let one : 1 + prefix_len in_line (t ++ ys) ≡ suc (length t) = omega (arith, line_long t ys i.1 e) in
    ap (λ b. cond (not b) (1 + prefix_len in_line (t ++ ys)) 0) (ne_eqb x lf i.0) ∙ one

-- the styles
plain_line : (x : ℕ) (xs : List ℕ) → x ≢ slash → x ≢ bang → line_style (slash ∷ slash ∷ x ∷ xs) ≡ None
plain_line x xs n m =
    ap₂ (λ u v. cond u (Some Inner) (cond (v && not (eqb (get_or xs 0 0) slash)) (Some Outer) None)) (ne_eqb x bang m) (ne_eqb x slash n)

outer_line_lem : (xs : List ℕ) → get_or xs 0 0 ≢ slash → line_style (slash ∷ slash ∷ slash ∷ xs) ≡ Some Outer
outer_line_lem xs n = ap (λ u. cond (not u) (Some Outer) None) (ne_eqb (get_or xs 0 0) slash n)

ends_other : (a : ℕ) (ys : List ℕ) → a ≢ 0 → a ≢ lf → LineEnds ys → get_or ys 0 0 ≢ a
ends_other a [] n m e h = n (sym h)
ends_other a (y ∷ ys) n m e h = m (sym h ∙ e)

bare_style : (ys : List ℕ) → LineEnds ys → line_style (slash ∷ slash ∷ ys) ≡ None
bare_style [] e = refl
bare_style (y ∷ ys) e = plain_line y ys (ends_other slash (y ∷ ys) (omega arith) (omega arith) e) (ends_other bang (y ∷ ys) (omega arith) (omega arith) e)

take_first : (n : ℕ) (xs : List ℕ) (a : ℕ) → a ≢ 0 → get_or xs 0 0 ≢ a → get_or (take n xs) 0 0 ≢ a
take_first zero xs a z n = λ e. z (sym e)
take_first (suc k) [] a z n = n
take_first (suc k) (x ∷ xs) a z n = n

-- `//` and the rest of the line are a comment of some form
pub record Lined (n : ℕ) (ys : List ℕ) : Type 0 where
  pub form : Form
  pub stands : Stands form (suc (suc n)) (slash ∷ slash ∷ ys)

formed : (n : ℕ) (ys : List ℕ) (f : Form) → n ≤ length ys → Comment f (slash ∷ slash ∷ take n ys) → Follows f (drop n ys) → Lined n ys
formed n ys f l k e = record { form = f; stands = record { within = omega (arith, l); whole = k; follows = e } }

four_slashes : (k : ℕ) (zs : List ℕ) → get_or zs 0 0 ≡ slash → Line (suc k) (slash ∷ zs) → Lined (suc k) (slash ∷ zs)
four_slashes zero zs e l = absurd (ends_other slash zs (omega arith) (omega arith) l.ends e)
four_slashes (suc j) [] e l = absurd (omega (arith, e))
four_slashes (suc j) (w ∷ ws) e l =
    subst (λ z. Lined (suc (suc j)) (slash ∷ z ∷ ws)) (sym e)
    (formed (suc (suc j)) (slash ∷ slash ∷ ws) line_comment l.within (slashes (take j ws) l.front.1.1) l.ends)

third_slash : (k : ℕ) (zs : List ℕ) → Line (suc k) (slash ∷ zs) → Lined (suc k) (slash ∷ zs)
third_slash k zs l =
    ⊎_elim
    (λ (e : get_or zs 0 0 ≡ slash). four_slashes k zs e l)
    (λ (n : get_or zs 0 0 ≢ slash).
    formed (suc k) (slash ∷ zs) outer_line_doc l.within (outer_line (take k zs) (take_first k zs slash (omega arith) n) l.front.1) l.ends)
    (cases_eq (get_or zs 0 0) slash)

pub lined : (n : ℕ) (ys : List ℕ) → Line n ys → Lined n ys
lined zero ys l = formed 0 ys line_comment l.within bare l.ends
lined (suc k) [] l = absurd (omega (arith, l.within))
lined (suc k) (y ∷ zs) l =
    ⊎_elim
    (λ (e : y ≡ slash). subst (λ z. Lined (suc k) (z ∷ zs)) (sym e) (third_slash k zs (subst (λ z. Line (suc k) (z ∷ zs)) e l)))
    (λ (n : y ≢ slash).
    ⊎_elim
    (λ (e : y ≡ bang).
    subst (λ z. Lined (suc k) (z ∷ zs)) (sym e)
    (formed (suc k) (bang ∷ zs) inner_line_doc l.within (inner_line (take k zs) l.front.1) l.ends))
    (λ (m : y ≢ bang). formed (suc k) (y ∷ zs) line_comment l.within (line y (take k zs) n m l.front) l.ends)
    (cases_eq y bang))
    (cases_eq y slash)

-- a line comment of the grammar, and where its line ends: its length and style
pub record Told (f : Form) (t ys : List ℕ) : Type 0 where
  pub rest : List ℕ
  pub opens : t ≡ slash ∷ slash ∷ rest
  pub lines : InLine t
  pub kind : LineComment (line_style (t ++ ys)) ≡ kind_of f
  pub ends : LineEnds ys

first_other : (xs ys : List ℕ) → get_or xs 0 0 ≢ slash → LineEnds ys → get_or (xs ++ ys) 0 0 ≢ slash
first_other [] ys n e = ends_other slash ys (omega arith) (omega arith) e
first_other (x ∷ xs) ys n e = n

slash_in : slash ≢ lf
slash_in = omega arith

pub told : {f : Form} {t : List ℕ} (ys : List ℕ) → Comment f t → is_block f ≡ false → Follows f ys → Told f t ys
told ys bare b e = record { rest = []; opens = refl; lines = (slash_in, (slash_in, tt)); kind = ap LineComment (bare_style ys e); ends = e }
told ys (line x xs n m i) b e = record { rest = x ∷ xs; opens = refl; lines = (slash_in, (slash_in, i)); kind = ap LineComment (plain_line x (xs ++ ys) n m); ends = e }
told ys (slashes xs i) b e = record { rest = slash ∷ slash ∷ xs; opens = refl; lines = (slash_in, (slash_in, (slash_in, (slash_in, i)))); kind = refl; ends = e }
told ys (inner_line xs i) b e = record { rest = bang ∷ xs; opens = refl; lines = (slash_in, (slash_in, ((omega arith), i))); kind = refl; ends = e }
told ys (outer_line xs n i) b e = record { rest = slash ∷ xs; opens = refl; lines = (slash_in, (slash_in, (slash_in, i))); kind = ap LineComment (outer_line_lem (xs ++ ys) (first_other xs ys n e)); ends = e }
told ys empty b e = absurd (true≢false b)
told ys empty_star b e = absurd (true≢false b)
told ys (block x xs n m s r) b e = absurd (true≢false b)
told ys (stars xs s r) b e = absurd (true≢false b)
told ys (around f c xs p k r) b e = absurd (true≢false b)
told ys (inner_block xs r) b e = absurd (true≢false b)
told ys (outer_block x xs n m r) b e = absurd (true≢false b)
