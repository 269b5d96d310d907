-- Shebang and opening line against the words of the relation. Assumes nothing.
use Rattle.std.proofs.Common.{◌≡◌, ℕ, ◌<◌, ◌≤◌, Bool, true, false, cond, not, ◌&&◌, eqb, ltb, List, length, get_or, Some, None, Option, sym, refl, ap, ◌∙◌, ⊎_elim, arith}
use Rattle.std.proofs.lemmas.List.{get_or_past}
use Rattle.std.proofs.lemmas.Bool.{eqb-true, eq-eqb, not-true, not_from_false, and_parts, and_from, cases_lt, cases_Bool, both_ways, ltb-true, lt-ltb, cond-true, cond-false}
use Rattle.script.specs.Sequences.{run_end}
use Rattle.script.specs.WhiteTable.{white}
use Rattle.frontmatter.specs.declared.parse.Opening.{Opening}
use Rattle.frontmatter.specs.declared.source.Span.{Span}
use Rattle.frontmatter.specs.Lines.{line_end, next_line, dash_end, blank_end, without_cr}
use Rattle.frontmatter.specs.Closes.{close_of}
use Rattle.frontmatter.specs.Parsed.{span, is_shebang, shebang, body_start, text, unclosed, closing, opening_line, opening, parsed}
use Rattle.frontmatter.specs.Reads.{Attribute, HashBang, Shebang, size, Opens, OpeningLine}
use Rattle.frontmatter.proofs.Words.{dashes_are, dashes_only, line_is, line_only, next_is, next_only, white_is, white_only, blank_is, blank_only, text_is, text_only, cr_is, cr_only, cr_within}
use Rattle.frontmatter.proofs.Stages.{reads_on}

abbrev hash_bang : List ℕ → Bool
hash_bang s = ltb 1 (length s) && (eqb (get_or s 0 0) 0x23 && eqb (get_or s 1 0) 0x21)

hash_is : (s : List ℕ) → hash_bang s ≡ true → HashBang s
hash_is s e =
    let a = and_parts (ltb 1 (length s)) (eqb (get_or s 0 0) 0x23 && eqb (get_or s 1 0) 0x21) e in
    let b = and_parts (eqb (get_or s 0 0) 0x23) (eqb (get_or s 1 0) 0x21) a.1 in
    let l = ltb-true 1 (length s) a.0 in
    ((omega arith, eqb-true (get_or s 0 0) 0x23 b.0), (l, eqb-true (get_or s 1 0) 0x21 b.1))

hash_only : (s : List ℕ) → HashBang s → hash_bang s ≡ true
hash_only s h =
    and_from (ltb 1 (length s)) (eqb (get_or s 0 0) 0x23 && eqb (get_or s 1 0) 0x21) (lt-ltb 1 (length s) h.1.0)
    (and_from (eqb (get_or s 0 0) 0x23) (eqb (get_or s 1 0) 0x21) (eq-eqb (get_or s 0 0) 0x23 h.0.1) (eq-eqb (get_or s 1 0) 0x21 h.1.1))

abbrev bracket : List ℕ → Bool
bracket s = eqb (get_or s (run_end white s 2) 0) 0x5B

bracket_is : (s : List ℕ) → HashBang s → bracket s ≡ true → Attribute s
bracket_is s h e =
    let w = run_end white s 2 in
    let is = eqb-true (get_or s w 0) 0x5B e in
    let two = h.1.0 in
    ⊎_elim
    (λ (inside : w < length s). (w, white_is s 2 (omega arith), (inside, is)))
    (λ (past : length s ≤ w). let none = get_or_past s w 0 past in absurd (omega arith))
    (cases_lt w (length s))

bracket_only : (s : List ℕ) → Attribute s → bracket s ≡ true
bracket_only s a =
    let w = white_only s 2 a.0 a.1 in
    eq-eqb (get_or s (run_end white s 2) 0) 0x5B (ap (λ k. get_or s k 0) (sym w) ∙ a.2.1)

shebang_by : (s : List ℕ) (h b : Bool) → hash_bang s ≡ h → bracket s ≡ b → Shebang s (cond (h && not b) (Some (span 0 (next_line s 0))) None) (cond (h && not b) (next_line s 0) 0)
shebang_by s true false h b = (hash_is s h, (λ a. both_ways (bracket s) b (bracket_only s a)), next_is s 0 (omega arith), refl)
shebang_by s true true h b = ((λ hb. bracket_is s hb b), refl)
shebang_by s false b h e = ((λ hb. absurd (both_ways (hash_bang s) h (hash_only s hb))), refl)

pub shebang_is : (s : List ℕ) → Shebang s (shebang s) (body_start s)
shebang_is s = shebang_by s (hash_bang s) (bracket s) refl refl

shebang_some : (s : List ℕ) → HashBang s → (Attribute s → ⊥) → is_shebang s ≡ true
shebang_some s h a =
    and_from (hash_bang s) (not (bracket s)) (hash_only s h)
    (not_from_false (bracket s) (⊎_elim (λ (e : bracket s ≡ true). absurd (a (bracket_is s h e))) (λ (e : bracket s ≡ false). e) (cases_Bool (bracket s))))

shebang_none : (s : List ℕ) → (HashBang s → Attribute s) → is_shebang s ≡ false
shebang_none s h =
    ⊎_elim
    (λ (e : is_shebang s ≡ true).
    let both = and_parts (hash_bang s) (not (bracket s)) e in
    absurd (both_ways (bracket s) (not-true (bracket s) both.1) (bracket_only s (h (hash_is s both.0)))))
    (λ (e : is_shebang s ≡ false). e)
    (cases_Bool (is_shebang s))

pub shebang_only : (s : List ℕ) (o : Option Span) (body : ℕ) → Shebang s o body → (o ≡ shebang s) × (body ≡ body_start s)
shebang_only s (Some line) body d =
    let is = shebang_some s d.0 d.1 in
    let next = next_only s 0 body d.2 in
    (ap Some (d.3 ∙ ap (span 0) next) ∙ sym (cond-true (is_shebang s) (Some (span 0 (next_line s 0))) None is), next ∙ sym (cond-true (is_shebang s) (next_line s 0) 0 is))
shebang_only s None body d =
    let is = shebang_none s d.0 in
    (sym (cond-false (is_shebang s) (Some (span 0 (next_line s 0))) None is), d.1 ∙ sym (cond-false (is_shebang s) (next_line s 0) 0 is))

body_by : (s : List ℕ) (b : Bool) → cond b (next_line s 0) 0 ≤ length s
body_by s true = omega arith
body_by s false = omega arith

-- the dashes of the first line that is not blank
abbrev pub fence_of : List ℕ → Span
fence_of s = span (blank_end s (body_start s)) (dash_end s (blank_end s (body_start s)))

pub opens_is : (s : List ℕ) → Opens s (shebang s) (body_start s) (fence_of s)
opens_is s =
    let body = body_start s in
    let blank = blank_is s body (body_by s (is_shebang s)) in
    record { before = shebang_is s; blank = blank; dashes = dashes_are s (blank_end s body) (omega (arith, blank.high, blank.space.high)) }

pub opens_only : (s : List ℕ) (sh : Option Span) (body : ℕ) (f : Span) → Opens s sh body f → parsed s ≡ opening s sh body f
opens_only s sh body f d =
    let both = shebang_only s sh body d.before in
    let start : f.start ≡ blank_end s (body_start s) = blank_only s body f.start d.blank ∙ ap (blank_end s) both.1 in
    let end : f.end ≡ dash_end s (blank_end s (body_start s)) = dashes_only s f.start f.end d.dashes ∙ ap (dash_end s) start in
    let is : f ≡ fence_of s = ap (λ x. span x f.end) start ∙ ap (span (blank_end s (body_start s))) end in
    sym (ap (λ x. opening s x body f) both.0 ∙ (ap (λ x. opening s (shebang s) x f) both.1 ∙ ap (opening s (shebang s) (body_start s)) is))

pub opening_line_is : (s : List ℕ) (sh : Option Span) (body : ℕ) (f : Span) → Opens s sh body f → 3 ≤ size f → line_end s f.end < length s → OpeningLine s (opening_line s sh f (line_end s f.end))
opening_line_is s sh body f d three inside =
    let l = line_end s f.end in
    let line = line_is s f.end d.dashes.high in
    let cr = cr_is s f.end l in
    record {
      body = body;
      opens = d;
      three = three;
      line = line;
      feed = inside;
      info_end = without_cr s f.end l;
      less_cr = cr;
      info = text_is s f.end (without_cr s f.end l) (cr_within s f.end l (without_cr s f.end l) line.low cr).0;
    }

-- a line that opens a frontmatter decides how the script is read on
pub opening_line_only : (s : List ℕ) (o : Opening) → OpeningLine s o → parsed s ≡ closing s o (close_of s o.end (size o.fence))
opening_line_only s o d =
    let f = o.fence in
    let l = line_only s f.end o.end d.line in
    let inside : line_end s f.end < length s = omega (arith, l, d.feed) in
    let cr = cr_only s f.end o.end d.info_end d.less_cr in
    let within = cr_within s f.end o.end d.info_end d.line.low d.less_cr in
    let info : o.info ≡ text s f.end (without_cr s f.end o.end) = text_only s f.end d.info_end o.info within.0 d.info ∙ ap (text s f.end) cr in
    let is : opening_line s o.shebang f o.end ≡ o = ap (λ i. record { shebang = o.shebang; fence = f; info = i; end = o.end }) (sym info) in
    opens_only s o.shebang d.body f d.opens
    ∙ (reads_on s o.shebang d.body f d.three
    ∙ (cond-true (ltb (line_end s f.end) (length s)) (closing s (opening_line s o.shebang f (line_end s f.end)) (close_of s (line_end s f.end) (size f))) (unclosed s f) (lt-ltb (line_end s f.end) (length s) inside)
    ∙ (ap (λ k. closing s (opening_line s o.shebang f k) (close_of s k (size f))) (sym l)
    ∙ ap (λ z. closing s z (close_of s o.end (size f))) is)))
