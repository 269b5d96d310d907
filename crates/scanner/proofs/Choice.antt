-- Which token is answered at a place: white space, else a comment, else another; and that none of them begins where no
-- character does. Assumes nothing.
use Rattle.std.proofs.Common.{◌≡◌, ℕ, zero, suc, ◌+◌, ◌<◌, ◌≤◌, Bool, true, false, ◌&&◌, ◌||◌, cond, ltb, leb, List, [], ◌∷◌, length, get_or, drop, Some, None, Ok, Err, Result, sym, refl, ap, ◌∙◌, ⊎_elim, arith, length-drop}
use Rattle.std.specs.List.{prefix_len}
use Rattle.std.proofs.lemmas.Bool.{and_parts, lt-ltb, le-ltb, cases_lt, cases_Bool, cond-true, cond-false}
use Rattle.std.proofs.lemmas.Bool.Decides.{nat_tests}
use Rattle.std.proofs.Math.Utf8.{encode}
use Rattle.script.specs.Sequences.{Range, Row, holds, stands, sequence, run_end}
use Rattle.script.specs.WhiteTable.{white}
use Rattle.script.proofs.Joins.{found_row}
use Rattle.script.proofs.Runs.{run_stop}
use Rattle.raw.specs.Answers.{begins, token_answer}
use Rattle.raw.specs.declared.Refusal.{Refusal}
use Rattle.raw.specs.declared.Refusal.TheVariants.{NoToken}
use Rattle.raw.specs.declared.kinds.RawKind.TheVariants.{Whitespace, Ident}
use Rattle.raw.specs.declared.kinds.RawToken.{RawToken}
use Rattle.scanner.specs.Classes.{letter, digit, word, run_to}
use Rattle.scanner.specs.Comments.{comment}
use Rattle.scanner.specs.Tokens.{span_of, number_to, character_at, or, word_at, token_at}
use Rattle.scanner.specs.ScannerLaws.{low_letter}
use Rattle.scanner.proofs.Places.{byte_left, ascii_begins, no_comment}

-- a row begins with a byte that continues no character
abbrev leads : Row → Bool
leads [] = false
leads (r ∷ rs) = ltb r.most 128 || leb 192 r.least

abbrev all_lead : List Row → Bool
all_lead [] = true
all_lead (r ∷ t) = leads r && all_lead t

lead_at : (t : List Row) (k : ℕ) → k < length t → all_lead t ≡ true → leads (get_or t k []) ≡ true
lead_at [] k l e = absurd (omega arith)
lead_at (r ∷ t) zero l e = (and_parts (leads r) (all_lead t) e).0
lead_at (r ∷ t) (suc k) l e = lead_at t k (omega arith) (and_parts (leads r) (all_lead t) e).1

white_leads : all_lead white ≡ true
unfolding encode
white_leads = refl

range_begins : (r : Range) (bs : List ℕ) (p : ℕ) → (ltb r.most 128 || leb 192 r.least) ≡ true → holds r bs p ≡ true → begins bs p ≡ true
range_begins r bs p d e = grind (arith, nat_tests)

row_begins : (r : Row) (bs : List ℕ) (p : ℕ) → leads r ≡ true → stands r bs p ≡ true → begins bs p ≡ true
row_begins [] bs p d e = let z : ◌≡◌ {A = ℕ} 0 1 = cc in absurd (omega arith)
row_begins (r ∷ rs) bs p d e = range_begins r bs p d (and_parts (holds r bs p) (stands rs bs (p + 1)) e).0

white_begins : (bs : List ℕ) (p : ℕ) → p < run_end white bs p → begins bs p ≡ true
white_begins bs p some =
    ⊎_elim
    (λ (more : 0 < sequence white bs p).
    let row = found_row white bs p more in row_begins (get_or white row.0 []) bs p (lead_at white row.0 row.1 white_leads) row.2)
    (λ (none : sequence white bs p ≤ 0). absurd (omega (arith, run_stop white bs p (omega arith))))
    (cases_lt 0 (sequence white bs p))

-- a token that stands where one begins is the answer there
answered : (bs : List ℕ) (token : ℕ → RawToken) (p : ℕ) (t : RawToken) → begins bs p ≡ true → t ≡ token p → Ok t ≡ token_answer bs token p
answered bs token p t b is = ap {B = Result RawToken Refusal} (λ u. Ok u) is ∙ sym (cond-true (begins bs p) (Ok (token p)) (Err NoToken) b)

-- a word
pub letter_there : (bs : List ℕ) (p n : ℕ) (text : List ℕ) (t : RawToken) → 1 ≤ length text → text ≡ drop p bs → letter (get_or text 0 0) ≡ true → n ≡ prefix_len word text → t ≡ span_of Ident p (p + n) → Ok t ≡ token_answer bs (word_at bs) p
letter_there bs p n text t some left e run is =
    let byte : get_or text 0 0 ≡ get_or bs p 0 = ap (λ z. get_or z 0 0) left ∙ byte_left bs p in
    let first : letter (get_or bs p 0) ≡ true = ap letter (sym byte) ∙ e in
    let inside : p < length bs = omega (arith, ap length left, length-drop p bs) in
    let to : p + n ≡ run_to word bs p = omega (arith, run, ap (prefix_len word) left) in
    answered bs (word_at bs) p t (ascii_begins bs p inside (low_letter (get_or bs p 0) first))
    (is
    ∙ ap (span_of Ident p) to
    ∙ sym (cond-true (letter (get_or bs p 0)) (span_of Ident p (run_to word bs p)) (cond (digit (get_or bs p 0)) (number_to bs p (run_to digit bs p)) (character_at bs p)) first))

module _ (bs : List ℕ) (p e : ℕ) (is : e ≡ run_end white bs p) where
  pub white_there : (t : RawToken) → p < e → t ≡ span_of Whitespace p e → Ok t ≡ token_answer bs (token_at bs) p
  unfolding token_at
  white_there t some same =
      let there : p < run_end white bs p = omega arith in
      answered bs (token_at bs) p t (white_begins bs p there)
      (same
      ∙ ap (span_of Whitespace p) is
      ∙ sym (cond-true (ltb p (run_end white bs p)) (span_of Whitespace p (run_end white bs p)) (or (comment (drop p bs)) (word_at bs p)) (lt-ltb p (run_end white bs p) there)))

  none_white : e ≤ p → token_at bs p ≡ or (comment (drop p bs)) (word_at bs p)
  unfolding token_at
  none_white none = cond-false (ltb p (run_end white bs p)) (span_of Whitespace p (run_end white bs p)) (or (comment (drop p bs)) (word_at bs p)) (le-ltb p (run_end white bs p) (omega arith))

  pub comment_there : (t : RawToken) → e ≤ p → Some t ≡ comment (drop p bs) → Ok t ≡ token_answer bs (token_at bs) p
  comment_there t none same =
      ⊎_elim
      (λ (b : begins bs p ≡ true). answered bs (token_at bs) p t b (ap (λ o. or o (word_at bs p)) same ∙ sym (none_white none)))
      (λ (b : begins bs p ≡ false). let no = no_comment bs p b in let z : ◌≡◌ {A = ℕ} 0 1 = cc in absurd (omega arith))
      (cases_Bool (begins bs p))

  pub word_there : e ≤ p → None ≡ comment (drop p bs) → token_answer bs (word_at bs) p ≡ token_answer bs (token_at bs) p
  word_there none bare =
      ap (λ t. cond (begins bs p) (Ok t) (Err NoToken)) (ap (λ o. or o (word_at bs p)) bare ∙ sym (none_white none))
