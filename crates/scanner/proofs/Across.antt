-- The scan passes over a comment of the grammar whole. Assumes nothing.
use Rattle.std.proofs.Common.{◌≡◌, ℕ, zero, suc, true, false, ◌&&◌, ◌||◌, eqb, ◌≢◌, List, [], ◌∷◌, ◌++◌, length, get_or, Some, sym, refl, ap, ◌∙◌, subst, ap₂, length-append}
use Rattle.std.proofs.lemmas.List.{append_assoc}
use Rattle.std.proofs.lemmas.Bool.{false≢true, ne_eqb}
use Rattle.scanner.specs.Grammar.{slash, star, bang, Form, is_block, Single, Comment, Rest, bare, line, slashes, inner_line, outer_line, empty, empty_star, block, stars, around, inner_block, outer_block, close, single, nested}
use Rattle.scanner.specs.Comments.{further, closing}
use Rattle.scanner.proofs.Steps.{plus, plus_some, plus_plus, single_step}

-- the scan reads the rest of a block comment up to its end
pub record Read (t : List ℕ) : Type 0 where
  pub head : ℕ
  pub tail : List ℕ
  pub full : t ≡ head ∷ tail
  pub ends : (ys : List ℕ) → closing 0 (t ++ ys) ≡ Some (length t)
  pub goes : (d : ℕ) (ys : List ℕ) → closing (suc d) (t ++ ys) ≡ plus (length t) (closing d ys)

-- a text that opens a block comment and closes it
pub record Opened (t : List ℕ) : Type 0 where
  pub rest : List ℕ
  pub opens : t ≡ slash ∷ star ∷ rest
  pub reads : Read rest

close_read : Read (star ∷ slash ∷ [])
close_read = record { head = star; tail = slash ∷ []; full = refl; ends = λ ys. refl; goes = λ d ys. refl }

single_there : (x y : ℕ) (ys : List ℕ) → Single (x ∷ y ∷ ys) → Read (y ∷ ys) → Read (x ∷ y ∷ ys)
single_there x y ys s r = record {
  head = x;
  tail = y ∷ ys;
  full = refl;
  ends = λ zs. single_step 0 x y (ys ++ zs) s ∙ ap further (r.ends zs);
  goes = λ d zs. single_step (suc d) x y (ys ++ zs) s ∙ ap further (r.goes d zs);
}

single_read : (x : ℕ) (xs : List ℕ) → Single (x ∷ xs) → Read xs → Read (x ∷ xs)
single_read x xs s r =
    subst (λ t. Read (x ∷ t)) (sym r.full)
    (single_there x r.head r.tail (subst (λ t. Single (x ∷ t)) r.full s) (subst Read r.full r))

-- past a nested comment the scan is as deep as before
across_all : (d : ℕ) (t ys : List ℕ) → Opened t → closing d (t ++ ys) ≡ plus (length t) (closing d ys)
across_all d t ys o = subst (λ t. closing d (t ++ ys) ≡ plus (length t) (closing d ys)) (sym o.opens) (at d)
  where
    at : (d : ℕ) → closing d (slash ∷ star ∷ (o.rest ++ ys)) ≡ plus (suc (suc (length o.rest))) (closing d ys)
    at zero = ap (λ z. further (further z)) (o.reads.goes 0 ys)
    at (suc d) = ap (λ z. further (further z)) (o.reads.goes (suc d) ys)

nested_read : (c xs : List ℕ) → Opened c → Read xs → Read (c ++ xs)
nested_read c xs o r = record {
  head = slash;
  tail = star ∷ (o.rest ++ xs);
  full = ap (λ z. z ++ xs) o.opens;
  ends = λ ys.
      ap (closing 0) (append_assoc c xs ys)
      ∙ across_all 0 c (xs ++ ys) o
      ∙ ap (plus (length c)) (r.ends ys)
      ∙ plus_some (length c) (length xs)
      ∙ ap Some (sym (length-append c xs));
  goes = λ d ys.
      ap (closing (suc d)) (append_assoc c xs ys)
      ∙ across_all (suc d) c (xs ++ ys) o
      ∙ ap (plus (length c)) (r.goes d ys)
      ∙ plus_plus (length c) (length xs) (closing d ys)
      ∙ ap (λ k. plus k (closing d ys)) (sym (length-append c xs));
}

-- a character is single that is neither `*` nor `/`, and so is `*` before one that is not `/`
star_single : (x : ℕ) (xs : List ℕ) → x ≢ slash → Single (star ∷ x ∷ xs)
star_single x xs n = ap (λ z. z || false) (ne_eqb x slash n)

other_single : (x : ℕ) (xs : List ℕ) → x ≢ star → x ≢ slash → Single (x ∷ xs)
other_single x xs n m = ap₂ (λ u v. (u && eqb (get_or xs 0 0) slash) || (v && eqb (get_or xs 0 0) star)) (ne_eqb x star n) (ne_eqb x slash m)

opened : (r : List ℕ) → Read r → Opened (slash ∷ star ∷ r)
opened r reads = record { rest = r; opens = refl; reads = reads }

mutual
  pub across : {f : Form} {t : List ℕ} → Comment f t → is_block f ≡ true → Opened t
  across bare e = absurd (false≢true e)
  across (line x xs a b i) e = absurd (false≢true e)
  across (slashes xs i) e = absurd (false≢true e)
  across (inner_line xs i) e = absurd (false≢true e)
  across (outer_line xs a i) e = absurd (false≢true e)
  across empty e = opened (star ∷ slash ∷ []) close_read
  across empty_star e = opened (star ∷ star ∷ slash ∷ []) (single_read star (star ∷ slash ∷ []) refl close_read)
  across (block x xs a b s r) e = opened (x ∷ xs) (single_read x xs s (across_rest r))
  across (stars xs s r) e = opened (star ∷ star ∷ xs) (single_read star (star ∷ xs) refl (single_read star xs s (across_rest r)))
  across (around f c xs b k r) e = opened (c ++ xs) (nested_read c xs (across k b) (across_rest r))
  across (inner_block xs r) e = opened (bang ∷ xs) (single_read bang xs refl (across_rest r))
  across (outer_block x xs a b r) e = opened (star ∷ x ∷ xs) (single_read star (x ∷ xs) (star_single x xs b) (single_read x xs (other_single x xs a b) (across_rest r)))

  pub across_rest : {t : List ℕ} → Rest t → Read t
  across_rest close = close_read
  across_rest (single x xs s r) = single_read x xs s (across_rest r)
  across_rest (nested f c xs b k r) = nested_read c xs (across k b) (across_rest r)
