-- A scanner keeps the laws of a source. Assumes nothing.
use Rattle.std.specs.Prelude.{◌≡◌, ℕ, zero, suc, ◌+◌, ◌<◌, ◌≤◌, Bool, true, false, cond, ◌&&◌, ◌||◌, List, [], ◌∷◌, map, length, drop, Some, None, Option, ◌==◌, nat_le, nat_lt, slice_index, refl}
use Rattle.std.proofs.Common.{sym, ap, ◌∙◌, ⊎_elim, arith}
use Rattle.std.specs.Int.{is_in_range}
use Rattle.std.proofs.lemmas.List.{get_or-drop, length-drop, drop-drop, get_or_past}
use Rattle.std.proofs.lemmas.List.Sums.{prefix_len-drop_yes}
use Rattle.std.proofs.lemmas.Bool.{and_parts, or_cases, or_left, eqb-true, leb-true, ltb-true, not-false, cond_both, cases_lt}
use Rattle.script.specs.Admission.{admits}
use Rattle.script.specs.Places.{boundary}
use Rattle.script.specs.Sequences.{sequence, run_end}
use Rattle.script.specs.Utf8Table.{utf8}
use Rattle.script.specs.WhiteTable.{white}
use Rattle.script.proofs.Bounds.{ascii_after, boundary_end}
use Rattle.script.proofs.Joins.{run_le as white_le}
use Rattle.raw.specs.Forms.{form, ordinary}
use Rattle.raw.specs.Laws.{Laws, keeps}
use Rattle.raw.specs.declared.kinds.LiteralKind.TheVariants.{Int, Float}
use Rattle.raw.specs.declared.kinds.RawKind.{RawKind}
use Rattle.raw.specs.declared.kinds.RawKind.TheVariants.{Whitespace, Ident, Literal}
use Rattle.raw.specs.declared.kinds.RawToken.{RawToken}
use Rattle.raw.proofs.Characters.{some_bytes, ends_within, ends_at_boundary}
use Rattle.raw.proofs.Ends.{Ends, ordinary_keeps, run_le, ascii_run, stopped_run, white_run}
use Rattle.scanner.specs.declared.Scanner.{Scanner}
use Rattle.scanner.specs.Grammar.{slash, star, lf, begins}
use Rattle.scanner.specs.Comments.{further, closing, in_line, line_token, block_by, block_token, comment}
use Rattle.scanner.specs.Classes.{letter, digit, word, run_to, marks, kind_in, mark_kind}
use Rattle.scanner.specs.Tokens.{span_of, point, number_to, character_at, word_at, or, token_at}

-- the bytes of words and numbers are ASCII
low_within : (a b x : ℕ) → b < 128 → is_in_range a b x ≡ true → x < 128
low_within a b x h e = omega (arith, leb-true x b (and_parts (nat_le a x) (nat_le x b) e).1)

pub low_letter : (x : ℕ) → letter x ≡ true → x < 128
low_letter x e =
    ⊎_elim
    (λ h. ⊎_elim (low_within 97 122 x (omega arith)) (low_within 65 90 x (omega arith)) (or_cases (is_in_range 97 122 x) (is_in_range 65 90 x) h))
    (λ h. omega (arith, eqb-true x 95 h))
    (or_cases (is_in_range 97 122 x || is_in_range 65 90 x) (x == 95) e)

low_digit : (x : ℕ) → digit x ≡ true → x < 128
low_digit x e = low_within 48 57 x (omega arith) e

low_word : (x : ℕ) → word x ≡ true → x < 128
low_word x e = ⊎_elim (low_letter x) (low_digit x) (or_cases (letter x) (digit x) e)

-- what ends a line is ASCII
low_line : (x : ℕ) → in_line x ≡ false → x < 128
low_line x e = omega (arith, eqb-true x lf (not-false (x == lf) e))

first_byte : (bs : List ℕ) (p x : ℕ) → (slice_index (drop p bs) 0 == x) ≡ true → slice_index bs p ≡ x
first_byte bs p x e =
    let here : p ≡ p + 0 = omega arith in
    ap (λ k. slice_index bs k) here ∙ (sym (get_or-drop p bs 0 0) ∙ eqb-true (slice_index (drop p bs) 0) x e)

-- a run whose first byte passes has a byte or more
run_some : (c : ℕ → Bool) (bs : List ℕ) (p : ℕ) → p < length bs → c (slice_index bs p) ≡ true → p < run_to c bs p
run_some c bs p l e = omega (arith, prefix_len-drop_yes c bs p 0 l e)

-- a comment is closed behind a `/`
pub record Last (n : ℕ) (xs : List ℕ) : Type 0 where
  pub before : ℕ
  pub next : n ≡ suc before
  pub within : before < length xs
  pub byte : slice_index xs before ≡ slash

last_on : (x n : ℕ) (xs : List ℕ) (o : Option ℕ) → ((m : ℕ) → o ≡ Some m → Last m xs) → further o ≡ Some n → Last n (x ∷ xs)
last_on x n xs None ih e = let z : ◌≡◌ {A = ℕ} 0 1 = cc in absurd (omega arith)
last_on x n xs (Some m) ih e =
    let k = ih m refl in
    let one : suc m ≡ n = cc in
    record { before = suc k.before; next = omega (arith, k.next); within = omega (arith, k.within); byte = k.byte }

last_two : (x y n : ℕ) (xs : List ℕ) (o : Option ℕ) → ((m : ℕ) → o ≡ Some m → Last m xs) → further (further o) ≡ Some n → Last n (x ∷ y ∷ xs)
last_two x y n xs o ih e = last_on x n (y ∷ xs) (further o) (λ m. last_on y m xs o ih) e

last_here : (x y n : ℕ) (xs : List ℕ) → (x == star && y == slash) ≡ true → Some 2 ≡ Some n → Last n (x ∷ y ∷ xs)
last_here x y n xs t e =
    let two : 2 ≡ n = cc in
    record { before = 1; next = sym two; within = omega arith; byte = eqb-true y slash (and_parts (x == star) (y == slash) t).1 }

last_step : (x y n : ℕ) (xs : List ℕ) (u v w : Option ℕ) (a b : Bool) → (a ≡ true → u ≡ Some n → Last n (x ∷ y ∷ xs)) → (v ≡ Some n → Last n (x ∷ y ∷ xs)) → (w ≡ Some n → Last n (x ∷ y ∷ xs)) → cond a u (cond b v w) ≡ Some n → Last n (x ∷ y ∷ xs)
last_step x y n xs u v w true b f g h e = f refl e
last_step x y n xs u v w false true f g h e = g e
last_step x y n xs u v w false false f g h e = h e

closing_last : (xs : List ℕ) (d n : ℕ) → closing d xs ≡ Some n → Last n xs
closing_last [] d n e = let z : ◌≡◌ {A = ℕ} 0 1 = cc in absurd (omega arith)
closing_last (x ∷ []) d n e = let z : ◌≡◌ {A = ℕ} 0 1 = cc in absurd (omega arith)
closing_last (x ∷ y ∷ xs) zero n e =
    last_step x y n xs (Some 2) (further (further (closing 1 xs))) (further (closing 0 (y ∷ xs))) (x == star && y == slash) (x == slash && y == star)
    (last_here x y n xs)
    (last_two x y n xs (closing 1 xs) (λ m. closing_last xs 1 m))
    (last_on x n (y ∷ xs) (closing 0 (y ∷ xs)) (λ m. closing_last (y ∷ xs) 0 m))
    e
closing_last (x ∷ y ∷ xs) (suc d) n e =
    last_step x y n xs (further (further (closing d xs))) (further (further (closing (suc (suc d)) xs))) (further (closing (suc d) (y ∷ xs))) (x == star && y == slash) (x == slash && y == star)
    (λ _. last_two x y n xs (closing d xs) (λ m. closing_last xs d m))
    (last_two x y n xs (closing (suc (suc d)) xs) (λ m. closing_last xs (suc (suc d)) m))
    (last_on x n (y ∷ xs) (closing (suc d) (y ∷ xs)) (λ m. closing_last (y ∷ xs) (suc d) m))
    e

-- the kinds of marks owe nothing
mark_cond : (b : Bool) (k l : RawKind) → form k ≡ ordinary → form l ≡ ordinary → form (cond b k l) ≡ ordinary
mark_cond true k l e f = e
mark_cond false k l e f = f

kind_ordinary : (ms : List (ℕ × RawKind)) (b : ℕ) → map (λ m. form m.1) ms ≡ map (λ _. ordinary) ms → form (kind_in ms b) ≡ ordinary
kind_ordinary [] b e = refl
kind_ordinary (m ∷ ms) b e =
    let one : form m.1 ≡ ordinary = cc in
    let rest : map (λ (k : ℕ × RawKind). form k.1) ms ≡ map (λ (_ : ℕ × RawKind). ordinary) ms = cc in
    mark_cond (b == m.0) m.1 (kind_in ms b) one (kind_ordinary ms b rest)

mark_ordinary : (b : ℕ) → form (mark_kind b) ≡ ordinary
mark_ordinary b = kind_ordinary marks b refl

-- the token of each rule, at a boundary before the end
module _ (bs : List ℕ) (p : ℕ) (a : admits bs ≡ true) (l : p < length bs) (b : boundary bs p ≡ true) where
  abbrev Keeps : RawToken → Type 0
  Keeps t = keeps bs p t 0 ≡ true

  span_keeps : (k : RawKind) (q : ℕ) → form k ≡ ordinary → Ends bs p q → Keeps (span_of k p q)
  span_keeps k q o ends = ordinary_keeps bs p q (span_of k p q) o ends (omega (arith, ends.some))

  white_keeps : p < run_end white bs p → Keeps (span_of Whitespace p (run_end white bs p))
  white_keeps some = span_keeps Whitespace (run_end white bs p) refl (record { some = some; within = white_le white bs p (omega arith); at = white_run bs p a b })

  word_keeps : letter (slice_index bs p) ≡ true → Keeps (span_of Ident p (run_to word bs p))
  word_keeps e =
      let first : word (slice_index bs p) ≡ true = or_left (letter (slice_index bs p)) (digit (slice_index bs p)) e in
      span_keeps Ident (run_to word bs p) refl
      (record { some = run_some word bs p l first; within = run_le word bs p (omega arith); at = ascii_run word bs p a low_word (omega arith) b })

  -- digits, and a point with the digits behind it
  digits_end : digit (slice_index bs p) ≡ true → Ends bs p (run_to digit bs p)
  digits_end e = record { some = run_some digit bs p l e; within = run_le (digit) bs p (omega arith); at = ascii_run (digit) bs p a low_digit (omega arith) b }

  point_end : (q : ℕ) → Ends bs p q → slice_index bs q ≡ 46 → Ends bs p (run_to digit bs (q + 1))
  point_end q ends e =
      let inside : q < length bs = ⊎_elim (λ (h : q < length bs). h) (λ (h : length bs ≤ q). absurd (omega (arith, get_or_past bs q 0 h))) (cases_lt q (length bs)) in
      let there = ascii_after bs q a inside (omega arith) in
      record { some = omega (arith, ends.some); within = run_le (digit) bs (q + 1) (omega arith); at = ascii_run (digit) bs (q + 1) a low_digit (omega arith) there }

  number_keeps : (q : ℕ) → Ends bs p q → Keeps (number_to bs p q)
  number_keeps q ends =
      cond_both (point (drop q bs)) (span_of (Literal (Float false)) p (run_to digit bs (q + 1))) (span_of (Literal (Int false)) p q) Keeps
      (λ e. span_keeps (Literal (Float false)) (run_to digit bs (q + 1)) refl (point_end q ends (first_byte bs q 46 (and_parts (slice_index (drop q bs) 0 == 46) _ e).0)))
      (λ _. span_keeps (Literal (Int false)) q refl ends)

  character_keeps : Keeps (character_at bs p)
  character_keeps =
      span_keeps (mark_kind (slice_index bs p)) (p + sequence utf8 bs p) (mark_ordinary (slice_index bs p))
      (record { some = omega (arith, some_bytes bs p a l b); within = ends_within bs p a l b; at = ends_at_boundary bs p a l b })

  other_keeps : Keeps (word_at bs p)
  other_keeps =
      cond_both (letter (slice_index bs p)) (span_of Ident p (run_to word bs p)) (cond (digit (slice_index bs p)) (number_to bs p (run_to digit bs p)) (character_at bs p)) Keeps word_keeps
      (λ _. cond_both (digit (slice_index bs p)) (number_to bs p (run_to digit bs p)) (character_at bs p) Keeps (λ e. number_keeps (run_to digit bs p) (digits_end e)) (λ _. character_keeps))

  -- comments
  line_keeps : begins slash slash (drop p bs) ≡ true → Keeps (line_token (drop p bs))
  line_keeps e =
      let first = first_byte bs p slash (and_parts (slice_index (drop p bs) 0 == slash) _ e).0 in
      ordinary_keeps bs p (run_to in_line bs p) (line_token (drop p bs)) refl
      (record { some = run_some in_line bs p l (ap in_line first); within = run_le in_line bs p (omega arith); at = stopped_run in_line bs p low_line (omega arith) }) refl

  block_by_lem : (o : Option ℕ) → closing 0 (drop 2 (drop p bs)) ≡ o → Keeps (block_by (drop p bs) o)
  block_by_lem None is =
      ordinary_keeps bs p (length bs) (block_by (drop p bs) None) refl (record { some = l; within = omega arith; at = boundary_end bs (length bs) refl }) (omega (arith, length-drop p bs))
  block_by_lem (Some n) is =
      let last = closing_last (drop 2 (drop p bs)) 0 n is in
      let k = p + 2 + last.before in
      let byte : slice_index bs k ≡ slash = sym (get_or-drop (p + 2) bs last.before 0) ∙ (ap (λ z. slice_index z last.before) (sym (drop-drop 2 p bs)) ∙ last.byte) in
      let inside : k < length bs = omega (arith, last.within, length-drop 2 (drop p bs), length-drop p bs) in
      ordinary_keeps bs p (k + 1) (block_by (drop p bs) (Some n)) refl
      (record { some = omega arith; within = omega arith; at = ascii_after bs k a inside (omega arith) }) (omega (arith, last.next))

  comment_keeps : Keeps (or (comment (drop p bs)) (word_at bs p))
  comment_keeps =
      cond_both (begins slash slash (drop p bs)) (Some (line_token (drop p bs))) (cond (begins slash star (drop p bs)) (Some (block_token (drop p bs))) None) (λ o. Keeps (or o (word_at bs p))) line_keeps
      (λ _. cond_both (begins slash star (drop p bs)) (Some (block_token (drop p bs))) None (λ o. Keeps (or o (word_at bs p))) (λ _. block_by_lem (closing 0 (drop 2 (drop p bs))) refl) (λ _. other_keeps))

  token_keeps : Keeps (token_at bs p)
  unfolding token_at
  token_keeps =
      cond_both (nat_lt p (run_end white bs p)) (span_of Whitespace p (run_end white bs p)) (or (comment (drop p bs)) (word_at bs p)) Keeps
      (λ e. white_keeps (ltb-true p (run_end white bs p) e)) (λ _. comment_keeps)

pub scanner_laws : Laws {S = Scanner} (λ s. s.script.bytes.now) (λ s. token_at s.script.bytes.now) (λ s p. []) (λ s. 0)
scanner_laws = record {
  admitted = λ s. s.script.fits;
  tokens = λ s p e.
      let both = and_parts (nat_lt p (length s.script.bytes.now)) (boundary s.script.bytes.now p) e in
      token_keeps s.script.bytes.now p s.script.fits (ltb-true p (length s.script.bytes.now) both.0) both.1;
  shebangs = λ s. refl;
}
