-- What is answered of a text is what the grammar says of it, and nothing else is. Assumes nothing.
use Rattle.std.proofs.Common.{◌≡◌, ℕ, suc, Bool, true, false, cond, List, ◌∷◌, ◌++◌, length, take, drop, Some, None, Option, sym, refl, ap, ◌∙◌, subst, ap₂, ⊎_elim, arith}
use Rattle.std.specs.List.{prefix_len}
use Rattle.raw.specs.declared.kinds.DocStyle.{DocStyle}
use Rattle.raw.specs.declared.kinds.RawKind.{RawKind}
use Rattle.raw.specs.declared.kinds.RawKind.TheVariants.{BlockComment}
use Rattle.raw.specs.declared.kinds.RawToken.{RawToken}
use Rattle.std.proofs.lemmas.List.{take-append-drop, length-take-le}
use Rattle.std.proofs.lemmas.Bool.{false≢true, cases_Bool, cond-true, cond-false}
use Rattle.scanner.specs.Grammar.{slash, star, Form, line_comment, inner_line_doc, outer_line_doc, block_comment, inner_block_doc, outer_block_doc, is_block, begins, Comment}
use Rattle.scanner.specs.Comments.{in_line, closing, block_style, line_token, block_by, block_token, comment}
use Rattle.scanner.specs.Reading.{kind_of, token_of, Stands, Follows, Reading, stands, unclosed, none}
use Rattle.scanner.proofs.Scan.{begun}
use Rattle.scanner.proofs.Across.{across}
use Rattle.scanner.proofs.Formed.{formed, block_kind}
use Rattle.scanner.proofs.Pieces.{closed}
use Rattle.scanner.proofs.Lines.{line_of, line_long, lined, told}

-- a comment of the grammar at the front is the one that is answered
line_only : (f : Form) (t ys : List ℕ) → is_block f ≡ false → Comment f t → Follows f ys → comment (t ++ ys) ≡ Some (token_of f (length t))
line_only f t ys b k e =
    let l = told ys k b e in
    let starts : begins slash slash (t ++ ys) ≡ true = ap (λ z. begins slash slash (z ++ ys)) l.opens in
    cond-true (begins slash slash (t ++ ys)) (Some (line_token (t ++ ys))) (cond (begins slash star (t ++ ys)) (Some (block_token (t ++ ys))) None) starts
    ∙ ap₂ (λ (q : RawKind) (n : ℕ). Some (record { kind = q; len = n })) l.kind (line_long t ys l.lines l.ends)

block_only : (f : Form) (t ys : List ℕ) → is_block f ≡ true → Comment f t → comment (t ++ ys) ≡ Some (token_of f (length t))
block_only f t ys b k =
    let o = across k b in
    let text = slash ∷ star ∷ (o.rest ++ ys) in
    let kind : BlockComment (block_style text) true ≡ kind_of f = ap (λ z. BlockComment (block_style (z ++ ys)) true) (sym o.opens) ∙ block_kind ys k b in
    let long : suc (suc (length o.rest)) ≡ length t = ap length (sym o.opens) in
    ap (λ z. comment (z ++ ys)) o.opens
    ∙ ap (λ n. Some (block_by text n)) (o.reads.ends ys)
    ∙ ap₂ (λ (q : RawKind) (n : ℕ). Some (record { kind = q; len = n })) kind long

only_at : (f : Form) (t ys : List ℕ) (b : Bool) → is_block f ≡ b → Comment f t → Follows f ys → comment (t ++ ys) ≡ Some (token_of f (length t))
only_at f t ys true b k e = block_only f t ys b k
only_at f t ys false b k e = line_only f t ys b k e

pub only : (xs : List ℕ) (f : Form) (n : ℕ) → Stands f n xs → comment xs ≡ Some (token_of f n)
only xs f n s =
    ap comment (sym (take-append-drop n xs))
    ∙ only_at f (take n xs) (drop n xs) (is_block f) refl s.whole s.follows
    ∙ ap (λ (k : ℕ). Some (token_of f k)) (length-take-le n xs s.within)

-- an open comment is of no form, and neither is no comment
same_kind : (t u : RawToken) → ◌≡◌ {A = Option RawToken} (Some t) (Some u) → t.kind ≡ u.kind
same_kind t u e = let same : t ≡ u = cc in ap (λ (v : RawToken). v.kind) same

open_kind : (f : Form) (d : Option DocStyle) → BlockComment d false ≡ kind_of f → ⊥
open_kind line_comment d e = let z : ◌≡◌ {A = ℕ} 0 1 = cc in omega arith
open_kind inner_line_doc d e = let z : ◌≡◌ {A = ℕ} 0 1 = cc in omega arith
open_kind outer_line_doc d e = let z : ◌≡◌ {A = ℕ} 0 1 = cc in omega arith
open_kind block_comment d e = let z : ◌≡◌ {A = ℕ} 0 1 = cc in omega arith
open_kind inner_block_doc d e = let z : ◌≡◌ {A = ℕ} 0 1 = cc in omega arith
open_kind outer_block_doc d e = let z : ◌≡◌ {A = ℕ} 0 1 = cc in omega arith

never_none : (t : RawToken) → ◌≡◌ {A = Option RawToken} None (Some t) → ⊥
never_none t e = let z : ◌≡◌ {A = ℕ} 0 1 = cc in omega arith

line_reading : (ys : List ℕ) → Reading (slash ∷ slash ∷ ys) (comment (slash ∷ slash ∷ ys))
line_reading ys =
    let l = lined (prefix_len in_line ys) ys (line_of ys) in
    stands l.form (suc (suc (prefix_len in_line ys))) l.stands (only (slash ∷ slash ∷ ys) l.form (suc (suc (prefix_len in_line ys))) l.stands)

follows_block : (f : Form) (xs : List ℕ) → is_block f ≡ true → Follows f xs
follows_block line_comment xs e = absurd (false≢true e)
follows_block inner_line_doc xs e = absurd (false≢true e)
follows_block outer_line_doc xs e = absurd (false≢true e)
follows_block block_comment xs e = tt
follows_block inner_block_doc xs e = tt
follows_block outer_block_doc xs e = tt

block_by_lem : (ys : List ℕ) (o : Option ℕ) → closing 0 ys ≡ o → Reading (slash ∷ star ∷ ys) (comment (slash ∷ star ∷ ys))
block_by_lem ys None e =
    let text = slash ∷ star ∷ ys in
    let token : RawToken = record { kind = BlockComment (block_style text) false; len = length text } in
    let answer : comment text ≡ Some token = ap (λ o. Some (block_by text o)) e in
    unclosed (block_style text) refl (λ f n s. open_kind f (block_style text) (same_kind token (token_of f n) (sym answer ∙ only text f n s))) answer
block_by_lem ys (Some n) e =
    let c = closed ys 0 n e in
    let f = formed c.rests in
    let there : Stands f.form (suc (suc n)) (slash ∷ star ∷ ys) = record { within = omega (arith, c.within); whole = f.whole; follows = follows_block f.form (drop n ys) f.blocks } in
    stands f.form (suc (suc n)) there (only (slash ∷ star ∷ ys) f.form (suc (suc n)) there)

pub reading : (xs : List ℕ) → Reading xs (comment xs)
reading xs =
    ⊎_elim
    (λ (e : begins slash slash xs ≡ true). subst (λ z. Reading z (comment z)) (sym (begun slash slash xs (omega arith) (omega arith) e)) (line_reading (drop 2 xs)))
    (λ (n : begins slash slash xs ≡ false).
    ⊎_elim
    (λ (e : begins slash star xs ≡ true).
    subst (λ z. Reading z (comment z)) (sym (begun slash star xs (omega arith) (omega arith) e)) (block_by_lem (drop 2 xs) (closing 0 (drop 2 xs)) refl))
    (λ (m : begins slash star xs ≡ false).
    let answer : comment xs ≡ None =
    cond-false (begins slash slash xs) (Some (line_token xs)) (cond (begins slash star xs) (Some (block_token xs)) None) n ∙ cond-false (begins slash star xs) (Some (block_token xs)) None m in
    none m (λ f k s. never_none (token_of f k) (sym answer ∙ only xs f k s)) answer)
    (cases_Bool (begins slash star xs)))
    (cases_Bool (begins slash slash xs))

-- so it is of every answer that is the comment
pub read_as : (xs : List ℕ) (o : Option RawToken) → o ≡ comment xs → Reading xs o
read_as xs o is = subst (Reading xs) (sym is) (reading xs)

pub read_only : (xs : List ℕ) (o : Option RawToken) → o ≡ comment xs → (f : Form) (n : ℕ) → Stands f n xs → o ≡ Some (token_of f n)
read_only xs o is f n s = is ∙ only xs f n s
