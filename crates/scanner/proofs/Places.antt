-- Bytes and tokens by their places. Assumes nothing.
use Rattle.std.proofs.Common.{◌≡◌, ℕ, ◌+◌, ◌<◌, ◌≤◌, true, false, cond, ◌&&◌, eqb, ltb, ◌≢◌, List, length, get_or, drop, Some, None, sym, ap, ◌∙◌, ⊎_elim, arith}
use Rattle.std.proofs.lemmas.List.{get_or-drop, get_or_past}
use Rattle.std.proofs.lemmas.Bool.{true≢false, and_from, lt-ltb, ne_eqb, cases_lt, cond-true}
use Rattle.script.specs.Places.{boundary}
use Rattle.script.proofs.Bounds.{ascii_before}
use Rattle.raw.specs.declared.kinds.LiteralKind.TheVariants.{Int, Float}
use Rattle.raw.specs.declared.kinds.RawKind.TheVariants.{Literal}
use Rattle.raw.specs.Answers.{begins as token_begins}
use Rattle.scanner.specs.Grammar.{slash, star}
use Rattle.scanner.specs.Comments.{line_token, block_token, comment}
use Rattle.scanner.specs.Classes.{digit, run_to}
use Rattle.scanner.specs.Tokens.{span_of, point, number_to}

-- the first byte of what is left
pub byte_left : (bs : List ℕ) (p : ℕ) → get_or (drop p bs) 0 0 ≡ get_or bs p 0
byte_left bs p = let here : p + 0 ≡ p = omega arith in get_or-drop p bs 0 0 ∙ ap (λ k. get_or bs k 0) here

-- a token begins at an ASCII character
pub ascii_begins : (bs : List ℕ) (p : ℕ) → p < length bs → get_or bs p 0 < 128 → token_begins bs p ≡ true
ascii_begins bs p l low = and_from (ltb p (length bs)) (boundary bs p) (lt-ltb p (length bs) l) (ascii_before bs p l low)

no_slash : (bs : List ℕ) (p : ℕ) → token_begins bs p ≡ false → get_or (drop p bs) 0 0 ≢ slash
no_slash bs p e = λ s.
    ⊎_elim
    (λ (l : p < length bs). true≢false (sym (ascii_begins bs p l (omega (arith, byte_left bs p))) ∙ e))
    (λ (l : length bs ≤ p). omega (arith, byte_left bs p, get_or_past bs p 0 l))
    (cases_lt p (length bs))

-- where no token begins there is no comment
pub no_comment : (bs : List ℕ) (p : ℕ) → token_begins bs p ≡ false → None ≡ comment (drop p bs)
no_comment bs p e =
    let xs = drop p bs in
    sym (ap (λ z. cond (z && eqb (get_or xs 1 0) slash) (Some (line_token xs)) (cond (z && eqb (get_or xs 1 0) star) (Some (block_token xs)) None)) (ne_eqb (get_or xs 0 0) slash (no_slash bs p e)))

-- digits, a point and more digits
pub float_there : (bs : List ℕ) (p q e : ℕ) → point (drop q bs) ≡ true → e ≡ run_to digit bs (q + 1) → span_of (Literal (Float false)) p e ≡ number_to bs p q
float_there bs p q e dot is =
    ap (span_of (Literal (Float false)) p) is
    ∙ sym (cond-true (point (drop q bs)) (span_of (Literal (Float false)) p (run_to digit bs (q + 1))) (span_of (Literal (Int false)) p q) dot)
