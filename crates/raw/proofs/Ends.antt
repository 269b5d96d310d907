-- Where tokens may end: after a run of bytes, after white space, before and after an ASCII byte. Assumes nothing.
use Rattle.std.proofs.Common.{◌≡◌, ℕ, zero, suc, ◌+◌, ◌-◌, ◌<◌, ◌≤◌, Bool, true, false, ◌&&◌, leb, List, [], ◌∷◌, length, get_or, drop, sym, refl, ap, ◌∙◌, subst, ⊎_elim, arith}
use lib.Utf8.{encode}
use Rattle.std.specs.List.{prefix_len, list_any, list_all}
use Rattle.std.proofs.lemmas.List.{get_or-drop, length-drop}
use Rattle.std.proofs.lemmas.List.Sums.{prefix_len-le-length, prefix_len_passes, prefix_len_stops, AllPass-from_list_all}
use Rattle.std.proofs.lemmas.Bool.{and_parts, and_from, or_cases, cases_lt}
use Rattle.std.proofs.lemmas.Bool.Decides.{nat_tests}
use Rattle.script.specs.Admission.{admits}
use Rattle.script.specs.Places.{boundary}
use Rattle.script.specs.Sequences.{Range, Row, holds, stands, sequence, after, run_end}
use Rattle.script.specs.Utf8Table.{utf8}
use Rattle.script.specs.WhiteTable.{white}
use Rattle.script.proofs.Bounds.{ascii_before, ascii_after, boundary_end}
use Rattle.script.proofs.Joins.{found_row}
use Rattle.script.proofs.Runs.{sequence_within, after_none}
use Rattle.script.proofs.Tables.{utf8_fair}
use Rattle.raw.specs.Forms.{form, ordinary}
use Rattle.raw.specs.Laws.{keeps, spelled}
use Rattle.raw.specs.declared.kinds.RawToken.{RawToken}
use Rattle.raw.proofs.Characters.{ends_at_boundary}

-- a place where a token from p may end
pub record Ends (bs : List ℕ) (p q : ℕ) : Type 0 where
  pub some : p < q
  pub within : q ≤ length bs
  pub at : boundary bs q ≡ true

-- an ordinary token that ends at such a place keeps the laws
pub ordinary_keeps : (bs : List ℕ) (p q : ℕ) (t : RawToken) → form t.kind ≡ ordinary → Ends bs p q → p + t.len ≡ q → keeps bs p t 0 ≡ true
ordinary_keeps bs p q t o ends e =
    let spelled_so : spelled bs p t.len (form t.kind) ≡ true = ap (spelled bs p t.len) o in
    let at : boundary bs (p + t.len) ≡ true = subst (λ k. boundary bs k ≡ true) (sym e) ends.at in
    grind (arith, nat_tests)

-- a run of bytes that pass
module _ (t : ℕ → Bool) where
  pub run_le : (bs : List ℕ) (q : ℕ) → q ≤ length bs → q + prefix_len t (drop q bs) ≤ length bs
  run_le bs q l = omega (arith, prefix_len-le-length t (drop q bs), length-drop q bs)

  -- a run of ASCII bytes ends at a boundary where it begins at one
  pub ascii_run : (bs : List ℕ) (q : ℕ) → admits bs ≡ true → ((x : ℕ) → t x ≡ true → x < 128) → q ≤ length bs → boundary bs q ≡ true → boundary bs (q + prefix_len t (drop q bs)) ≡ true
  ascii_run bs q a low l b =
      let n = prefix_len t (drop q bs) in
      ⊎_elim
      (λ (some : 0 < n).
      let last = low (get_or (drop q bs) (n - 1) 0) (prefix_len_passes t (drop q bs) (n - 1) 0 (omega arith)) in
      let there : q + (n - 1) + 1 ≡ q + n = omega arith in
      subst (λ k. boundary bs k ≡ true) there
      (ascii_after bs (q + (n - 1)) a (omega (arith, run_le bs q l)) (subst (λ x. x < 128) (get_or-drop q bs (n - 1) 0) last)))
      (λ (none : n ≤ 0). let here : q ≡ q + n = omega arith in subst (λ k. boundary bs k ≡ true) here b)
      (cases_lt 0 n)

  -- a run that only an ASCII byte stops ends at a boundary
  pub stopped_run : (bs : List ℕ) (q : ℕ) → ((x : ℕ) → t x ≡ false → x < 128) → q ≤ length bs → boundary bs (q + prefix_len t (drop q bs)) ≡ true
  stopped_run bs q low l =
      let n = prefix_len t (drop q bs) in
      ⊎_elim
      (λ (inside : q + n < length bs).
      let stop = low (get_or (drop q bs) n 0) (prefix_len_stops t (drop q bs) 0 (omega (arith, length-drop q bs))) in
      ascii_before bs (q + n) inside (subst (λ x. x < 128) (get_or-drop q bs n 0) stop))
      (λ (end : length bs ≤ q + n). boundary_end bs (q + n) (omega (arith, run_le bs q l)))
      (cases_lt (q + n) (length bs))

-- each row of white space lies in a row of UTF-8
abbrev lies : Row → Row → Bool
lies [] [] = true
lies [] (b ∷ s) = false
lies (a ∷ r) [] = false
lies (a ∷ r) (b ∷ s) = (leb b.least a.least && leb a.most b.most) && lies r s

abbrev lies_in : List Row → Row → Bool
lies_in u r = list_any (lies r) u

holds_wider : (a b : Range) (bs : List ℕ) (p : ℕ) → (leb b.least a.least && leb a.most b.most) ≡ true → holds a bs p ≡ true → holds b bs p ≡ true
holds_wider a b bs p d e = grind (arith, nat_tests)

lies_stands : (r s : Row) (bs : List ℕ) (p : ℕ) → lies r s ≡ true → stands r bs p ≡ true → (stands s bs p ≡ true) × (length r ≡ length s)
lies_stands [] [] bs p d e = (refl, refl)
lies_stands [] (b ∷ s) bs p d e = cc
lies_stands (a ∷ r) [] bs p d e = cc
lies_stands (a ∷ r) (b ∷ s) bs p d e =
    let x = and_parts (leb b.least a.least && leb a.most b.most) (lies r s) d in
    let y = and_parts (holds a bs p) (stands r bs (p + 1)) e in
    let rest = lies_stands r s bs (p + 1) x.1 y.1 in
    (and_from (holds b bs p) (stands s bs (p + 1)) (holds_wider a b bs p x.0 y.0) rest.0, ap suc rest.1)

found_in : (r : Row) (u : List Row) (bs : List ℕ) (p : ℕ) → lies_in u r ≡ true → stands r bs p ≡ true → (k : ℕ) × (k < length u) × (stands (get_or u k []) bs p ≡ true) × (length r ≡ length (get_or u k []))
found_in r [] bs p d e = cc
found_in r (s ∷ u) bs p d e =
    ⊎_elim
    (λ h. let both = lies_stands r s bs p h e in (0, omega arith, both.0, both.1))
    (λ h. let k = found_in r u bs p h e in (suc k.0, omega (arith, k.1), k.2, k.3))
    (or_cases (lies r s) (lies_in u r) d)

white_lies : list_all (lies_in utf8) white ≡ true
unfolding encode
white_lies = refl

-- a white-space character is a character
white_character : (bs : List ℕ) (p : ℕ) → 0 < sequence white bs p → sequence utf8 bs p ≡ sequence white bs p
white_character bs p some =
    let row = found_row white bs p some in
    let k = found_in (get_or white row.0 []) utf8 bs p (AllPass-from_list_all (lies_in utf8) white white_lies row.0 [] row.1) row.2 in
    utf8_fair.found k.0 k.1 bs p k.2 ∙ (sym k.3 ∙ sym row.3)

-- white space ends at a boundary where it begins at one
after_whites : (bs : List ℕ) (p n : ℕ) → admits bs ≡ true → boundary bs p ≡ true → boundary bs (after white n bs p) ≡ true
after_whites bs p zero a b = b
after_whites bs p (suc n) a b =
    ⊎_elim
    (λ (some : 0 < sequence white bs p).
    let same = white_character bs p some in
    let next = ends_at_boundary bs p a (omega (arith, sequence_within white bs p some)) b in
    after_whites bs (p + sequence white bs p) n a (subst (λ k. boundary bs (p + k) ≡ true) same next))
    (λ (none : sequence white bs p ≤ 0). subst (λ k. boundary bs k ≡ true) (sym (after_none white bs p (suc n) (omega arith))) b)
    (cases_lt 0 (sequence white bs p))

pub white_run : (bs : List ℕ) (p : ℕ) → admits bs ≡ true → boundary bs p ≡ true → boundary bs (run_end white bs p) ≡ true
white_run bs p a b = after_whites bs p (length bs) a b
