-- What stands between `/*` and the end of a block comment tells its form. Assumes nothing.
use Rattle.std.proofs.Common.{◌≡◌, ℕ, true, false, cond, not, ◌&&◌, ◌||◌, eqb, ◌≢◌, List, ◌∷◌, ◌++◌, get_or, Some, None, sym, refl, ap, ◌∙◌, subst, ap₂, ⊎_elim}
use Rattle.raw.specs.declared.kinds.DocStyle.TheVariants.{Inner, Outer}
use Rattle.raw.specs.declared.kinds.RawKind.TheVariants.{BlockComment}
use Rattle.std.proofs.lemmas.Bool.{false≢true, true≢false, eq-eqb, ne_eqb, cases_eq}
use Rattle.scanner.specs.Grammar.{slash, star, bang, Form, block_comment, inner_block_doc, outer_block_doc, is_block, Single, Comment, Rest, bare, line, slashes, inner_line, outer_line, empty, empty_star, block, stars, around, inner_block, outer_block, close, single, nested}
use Rattle.scanner.specs.Comments.{block_style}
use Rattle.scanner.specs.Reading.{kind_of}
use Rattle.scanner.proofs.Across.{across}

-- `/*` and a rest are a block comment of some form
pub record Formed (r : List ℕ) : Type 0 where
  pub form : Form
  pub blocks : is_block form ≡ true
  pub whole : Comment form (slash ∷ star ∷ r)

after_star : {xs : List ℕ} → Rest xs → Single (star ∷ xs) → Formed (star ∷ xs)
after_star close s = record { form = block_comment; blocks = refl; whole = empty_star }
after_star (single y ys t r) s =
    ⊎_elim
    (λ (e : y ≡ slash). absurd (true≢false (ap (λ z. z || false) (sym (eq-eqb y slash e)) ∙ s)))
    (λ (m : y ≢ slash).
    ⊎_elim
    (λ (e : y ≡ star).
    subst (λ z. Formed (star ∷ z ∷ ys)) (sym e)
    (record { form = block_comment; blocks = refl; whole = stars ys (subst (λ z. Single (z ∷ ys)) e t) r }))
    (λ (n : y ≢ star). record { form = outer_block_doc; blocks = refl; whole = outer_block y ys n m r })
    (cases_eq y star))
    (cases_eq y slash)
after_star (nested f c ys b k r) s =
    let o = across k b in
    absurd (true≢false (subst (λ z. true ≡ ((eqb star star && eqb (get_or (z ++ ys) 0 0) slash) || (eqb star slash && eqb (get_or (z ++ ys) 0 0) star))) (sym o.opens) refl ∙ s))

pub formed : {r : List ℕ} → Rest r → Formed r
formed close = record { form = block_comment; blocks = refl; whole = empty }
formed (single x xs s r) =
    ⊎_elim
    (λ (e : x ≡ star). subst (λ z. Formed (z ∷ xs)) (sym e) (after_star r (subst (λ z. Single (z ∷ xs)) e s)))
    (λ (n : x ≢ star).
    ⊎_elim
    (λ (e : x ≡ bang). subst (λ z. Formed (z ∷ xs)) (sym e) (record { form = inner_block_doc; blocks = refl; whole = inner_block xs r }))
    (λ (m : x ≢ bang). record { form = block_comment; blocks = refl; whole = block x xs n m s r })
    (cases_eq x bang))
    (cases_eq x star)
formed (nested f c xs b k r) = record { form = block_comment; blocks = refl; whole = around f c xs b k r }

-- the style where the third character is none of those that make one
plain_style : (x : ℕ) (xs : List ℕ) → x ≢ star → x ≢ bang → block_style (slash ∷ star ∷ x ∷ xs) ≡ None
plain_style x xs n m =
    ap₂ (λ u v. cond u (Some Inner) (cond (v && not (eqb (get_or xs 0 0) star || eqb (get_or xs 0 0) slash)) (Some Outer) None)) (ne_eqb x bang m) (ne_eqb x star n)

outer_style : (x : ℕ) (xs : List ℕ) → x ≢ star → x ≢ slash → block_style (slash ∷ star ∷ star ∷ x ∷ xs) ≡ Some Outer
outer_style x xs n m = ap₂ (λ u v. cond (not (u || v)) (Some Outer) None) (ne_eqb x star n) (ne_eqb x slash m)

-- the style of a comment of the grammar, whatever follows it
pub block_kind : {f : Form} {t : List ℕ} (ys : List ℕ) → Comment f t → is_block f ≡ true → BlockComment (block_style (t ++ ys)) true ≡ kind_of f
block_kind ys bare b = absurd (false≢true b)
block_kind ys (line x xs n m i) b = absurd (false≢true b)
block_kind ys (slashes xs i) b = absurd (false≢true b)
block_kind ys (inner_line xs i) b = absurd (false≢true b)
block_kind ys (outer_line xs n i) b = absurd (false≢true b)
block_kind ys empty b = refl
block_kind ys empty_star b = refl
block_kind ys (block x xs n m s r) b = ap (λ d. BlockComment d true) (plain_style x (xs ++ ys) n m)
block_kind ys (stars xs s r) b = refl
block_kind ys (around f c xs p k r) b = let o = across k p in ap (λ z. BlockComment (block_style (slash ∷ star ∷ ((z ++ xs) ++ ys))) true) o.opens
block_kind ys (inner_block xs r) b = refl
block_kind ys (outer_block x xs n m r) b = ap (λ d. BlockComment d true) (outer_style x (xs ++ ys) n m)
