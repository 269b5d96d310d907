-- The searches against the words of the relation: each finds the one place that fits the description. Assumes nothing.
use Rattle.std.proofs.Common.{◌≡◌, ℕ, ◌+◌, ◌-◌, ◌<◌, ◌≤◌, Bool, true, false, cond, ◌&&◌, ◌||◌, eqb, ltb, leb, List, length, get_or, Some, None, Option, sym, refl, ap, ◌∙◌, inl, inr, ⊎_elim, arith}
use Rattle.std.proofs.lemmas.Bool.{eqb-true, eqb-false, eq-eqb, ne_eqb, not-true, not-false, not_from_false, or_cases, or_parts, or_from, and_parts, and_from, leb-true, le-leb, cases_lt, both_ways, ltb-true, lt-ltb, le-ltb, ltb-false, cond-true, cond-false}
use Rattle.script.specs.Sequences.{run_end}
use Rattle.script.specs.WhiteTable.{white}
use Rattle.script.proofs.Runs.{after_ge}
use Rattle.script.proofs.Joins.{run_is, run_only}
use Rattle.script.proofs.Tables.{white_fair}
use Rattle.frontmatter.specs.declared.source.Span.{Span}
use Rattle.frontmatter.specs.Searches.{first, past_last}
use Rattle.frontmatter.specs.Lines.{line_feed, not_dash, not_blank, at, line_end, next_line, dash_end, blank_end, closes_at, close_from, without_cr}
use Rattle.frontmatter.specs.Parsed.{span, text}
use Rattle.frontmatter.specs.Fences.{Blank, Dashes, Line, NextLine, WhiteSpace, BlankLines, Begins, FirstLine, Text, LessCr}
use Rattle.frontmatter.proofs.Searched.{first_low, first_high, first_before, first_hit, first_unique, first_nowhere, last_low, last_high, last_hit, last_after, last_unique}

-- the classes of bytes
is_dash_lem : (b : ℕ) → not_dash b ≡ false → b ≡ 0x2D
is_dash_lem b e = eqb-true b 0x2D (not-false (eqb b 0x2D) e)

no_dash : (b : ℕ) → not_dash b ≡ true → b ≡ 0x2D → ⊥
no_dash b e = eqb-false b 0x2D (not-true (eqb b 0x2D) e)

from_no_dash : (b : ℕ) → (b ≡ 0x2D → ⊥) → not_dash b ≡ true
from_no_dash b h = not_from_false (eqb b 0x2D) (ne_eqb b 0x2D h)

from_dash : (b : ℕ) → b ≡ 0x2D → not_dash b ≡ true → ⊥
from_dash b h e = no_dash b e h

is_blank : (b : ℕ) → not_blank b ≡ false → Blank b
is_blank b e = ⊎_elim (λ h. inl (eqb-true b 0x20 h)) (λ h. inr (eqb-true b 0x09 h)) (or_cases (eqb b 0x20) (eqb b 0x09) (not-false (eqb b 0x20 || eqb b 0x09) e))

no_blank : (b : ℕ) → not_blank b ≡ true → Blank b → ⊥
no_blank b e h =
    let parts = or_parts (eqb b 0x20) (eqb b 0x09) (not-true (eqb b 0x20 || eqb b 0x09) e) in
    ⊎_elim (eqb-false b 0x20 parts.0) (eqb-false b 0x09 parts.1) h

from_no_blank : (b : ℕ) → (Blank b → ⊥) → not_blank b ≡ true
from_no_blank b h =
    not_from_false (eqb b 0x20 || eqb b 0x09) (or_from (eqb b 0x20) (eqb b 0x09) (ne_eqb b 0x20 (λ e. h (inl e))) (ne_eqb b 0x09 (λ e. h (inr e))))

-- dashes
pub dashes_are : (s : List ℕ) (p : ℕ) → p ≤ length s → Dashes s p (dash_end s p)
dashes_are s p l = record {
  low = first_low (at not_dash s) p (length s);
  high = first_high (at not_dash s) p (length s) l;
  dashes = λ k a b. is_dash_lem (get_or s k 0) (first_before (at not_dash s) p (length s) k a b);
  all = λ h. no_dash (get_or s (dash_end s p) 0) (first_hit (at not_dash s) p (length s) l h.0) h.1;
}

pub dashes_only : (s : List ℕ) (p e : ℕ) → Dashes s p e → e ≡ dash_end s p
dashes_only s p e d =
    first_unique (at not_dash s) p (length s) e d.low d.high
    (λ k a b. from_dash (get_or s k 0) (d.dashes k a b))
    (λ l. from_no_dash (get_or s e 0) (λ h. d.all (l, h)))

-- lines
pub line_is : (s : List ℕ) (p : ℕ) → p ≤ length s → Line s p (line_end s p)
line_is s p l = record {
  low = first_low (at line_feed s) p (length s);
  high = first_high (at line_feed s) p (length s) l;
  same = λ k a b. eqb-false (get_or s k 0) 0x0A (first_before (at line_feed s) p (length s) k a b);
  ends = λ h. eqb-true (get_or s (line_end s p) 0) 0x0A (first_hit (at line_feed s) p (length s) l h);
}

pub line_only : (s : List ℕ) (p e : ℕ) → Line s p e → e ≡ line_end s p
line_only s p e d =
    first_unique (at line_feed s) p (length s) e d.low d.high
    (λ k a b h. d.same k a b (eqb-true (get_or s k 0) 0x0A h))
    (λ l. eq-eqb (get_or s e 0) 0x0A (d.ends l))

pub next_is : (s : List ℕ) (p : ℕ) → p ≤ length s → NextLine s p (next_line s p)
next_is s p l =
    let e = line_end s p in
    let line = line_is s p l in
    (e, line, ⊎_elim (λ (h : e < length s). inl (h, omega arith)) (λ (h : length s ≤ e). inr (omega (arith, line.high), omega (arith, line.high))) (cases_lt e (length s)))

pub next_only : (s : List ℕ) (p z : ℕ) → NextLine s p z → z ≡ next_line s p
next_only s p z n =
    let e = line_only s p n.0 n.1 in
    ⊎_elim (λ h. omega (arith, e, h.0, h.1)) (λ h. omega (arith, e, h.0, h.1)) n.2

-- white space and blank lines
pub white_is : (s : List ℕ) (p : ℕ) → p ≤ length s → WhiteSpace s p (run_end white s p)
white_is s p l = run_is white white_fair s p l

pub white_only : (s : List ℕ) (p w : ℕ) → WhiteSpace s p w → w ≡ run_end white s p
white_only s p w d = run_only white white_fair s p w d

pub blank_is : (s : List ℕ) (p : ℕ) → p ≤ length s → BlankLines s p (blank_end s p)
blank_is s p l =
    let w = run_end white s p in
    let low = after_ge white s p (length s) in
    record {
      end = w;
      space = white_is s p l;
      low = last_low (at line_feed s) p w;
      high = last_high (at line_feed s) p w low;
      lines = ⊎_elim (λ (h : p < blank_end s p). inr (h, eqb-true (get_or s (blank_end s p - 1) 0) 0x0A (last_hit (at line_feed s) p w h))) (λ (h : blank_end s p ≤ p). inl (omega (arith, last_low (at line_feed s) p w))) (cases_lt p (blank_end s p));
      all = λ k a b. eqb-false (get_or s k 0) 0x0A (last_after (at line_feed s) p w k low a b);
    }

pub blank_only : (s : List ℕ) (p q : ℕ) → BlankLines s p q → q ≡ blank_end s p
blank_only s p q d =
    let w = white_only s p d.end d.space in
    last_unique (at line_feed s) p d.end q d.low d.high
    (λ l. ⊎_elim (λ (none : q ≡ p). absurd (omega arith)) (λ h. eq-eqb (get_or s (q - 1) 0) 0x0A h.1) d.lines)
    (λ k a b h. d.all k a b (eqb-true (get_or s k 0) 0x0A h))
    ∙ ap (past_last (at line_feed s) p) w

-- lines that begin with dashes
pub begins_is : (s : List ℕ) (n k : ℕ) → k < length s → closes_at s n k ≡ true → Begins s n k
begins_is s n k l e =
    let both = and_parts (at line_feed s k) (leb (k + 1 + n) (dash_end s (k + 1))) e in
    let run = dashes_are s (k + 1) (omega arith) in
    let far = leb-true (k + 1 + n) (dash_end s (k + 1)) both.1 in
    record {
      feed = (l, eqb-true (get_or s k 0) 0x0A both.0);
      room = omega (arith, run.high);
      dashes = λ j a b. run.dashes j a (omega arith);
    }

pub begins_only : (s : List ℕ) (n k : ℕ) → Begins s n k → closes_at s n k ≡ true
begins_only s n k d =
    let run = dashes_are s (k + 1) (omega (arith, d.room)) in
    let e = dash_end s (k + 1) in
    let far : k + 1 + n ≤ e =
    ⊎_elim
    (λ (short : e < k + 1 + n). absurd (run.all (omega (arith, d.room), d.dashes e run.low short)))
    (λ (long : k + 1 + n ≤ e). long)
    (cases_lt e (k + 1 + n)) in
    and_from (at line_feed s k) (leb (k + 1 + n) e) (eq-eqb (get_or s k 0) 0x0A d.feed.1) (le-leb (k + 1 + n) e far)

pub first_line_is : (s : List ℕ) (n l : ℕ) → l ≤ length s → close_from s n l < length s → FirstLine s n l (close_from s n l)
first_line_is s n l h found = record {
  low = first_low (closes_at s n) l (length s);
  begins = begins_is s n (close_from s n l) found (first_hit (closes_at s n) l (length s) h found);
  first = λ j a b d. both_ways (closes_at s n j) (first_before (closes_at s n) l (length s) j a b) (begins_only s n j d);
}

pub first_line_only : (s : List ℕ) (n l k : ℕ) → FirstLine s n l k → k ≡ close_from s n l
first_line_only s n l k d =
    let inside = d.begins.feed.0 in
    first_unique (closes_at s n) l (length s) k d.low (omega arith)
    (λ j a b e. d.first j a b (begins_is s n j (omega arith) e))
    (λ h. begins_only s n k d.begins)

-- no line from l on begins with n dashes
pub no_line_is : (s : List ℕ) (n l : ℕ) → length s ≤ close_from s n l → (k : ℕ) → l ≤ k → Begins s n k → ⊥
no_line_is s n l none k a d =
    let inside = d.feed.0 in
    both_ways (closes_at s n k) (first_before (closes_at s n) l (length s) k a (omega arith)) (begins_only s n k d)

pub no_line_only : (s : List ℕ) (n l : ℕ) → ((k : ℕ) → l ≤ k → Begins s n k → ⊥) → length s ≤ close_from s n l
no_line_only s n l none = first_nowhere (closes_at s n) l (length s) (λ k a b e. none k a (begins_is s n k b e))

-- a line that begins with more dashes begins with fewer
pub begins_fewer : (s : List ℕ) (m n k : ℕ) → m ≤ n → Begins s n k → Begins s m k
begins_fewer s m n k l d = record {
  feed = d.feed;
  room = omega (arith, d.room);
  dashes = λ j a b. d.dashes j a (omega arith);
}

-- text without blanks at both ends
text_by : (s : List ℕ) (p e : ℕ) (b : Bool) → p ≤ e → ltb (first (at not_blank s) p e) (past_last (at not_blank s) p e) ≡ b → Text s p e (cond b (Some (span (first (at not_blank s) p e) (past_last (at not_blank s) p e))) None)
text_by s p e true l t =
    let a = first (at not_blank s) p e in
    let z = past_last (at not_blank s) p e in
    let some = ltb-true a z t in
    let a_low = first_low (at not_blank s) p e in
    let z_high = last_high (at not_blank s) p e l in (
      a_low,
      some,
      z_high,
      (λ k x y. is_blank (get_or s k 0) (first_before (at not_blank s) p e k x y)),
      (λ k x y. is_blank (get_or s k 0) (last_after (at not_blank s) p e k l x y)),
      no_blank (get_or s a 0) (first_hit (at not_blank s) p e l (omega arith)),
      no_blank (get_or s (z - 1) 0) (last_hit (at not_blank s) p e (omega arith)),
    )
text_by s p e false l t =
    λ k x y.
    let a = first (at not_blank s) p e in
    let z = past_last (at not_blank s) p e in
    let none = ltb-false a z t in
    ⊎_elim
    (λ (before : k < a). is_blank (get_or s k 0) (first_before (at not_blank s) p e k x before))
    (λ (after : a ≤ k). is_blank (get_or s k 0) (last_after (at not_blank s) p e k l (omega arith) y))
    (cases_lt k a)

pub text_is : (s : List ℕ) (p e : ℕ) → p ≤ e → Text s p e (text s p e)
text_is s p e l = text_by s p e (ltb (first (at not_blank s) p e) (past_last (at not_blank s) p e)) l refl

pub text_only : (s : List ℕ) (p e : ℕ) (o : Option Span) → p ≤ e → Text s p e o → o ≡ text s p e
text_only s p e (Some t) l d =
    let a = first_unique (at not_blank s) p e t.start d.0 (omega (arith, d.1, d.2)) (λ k x y h. no_blank (get_or s k 0) h (d.3 k x y)) (λ _. from_no_blank (get_or s t.start 0) d.5) in
    let z = last_unique (at not_blank s) p e t.end (omega (arith, d.0, d.1)) d.2 (λ _. from_no_blank (get_or s (t.end - 1) 0) d.6) (λ k x y h. no_blank (get_or s k 0) h (d.4 k x y)) in
    let is : t ≡ span (first (at not_blank s) p e) (past_last (at not_blank s) p e) = ap (λ x. span x t.end) a ∙ ap (span (first (at not_blank s) p e)) z in
    ap Some is ∙ sym (cond-true (ltb (first (at not_blank s) p e) (past_last (at not_blank s) p e)) (Some (span (first (at not_blank s) p e) (past_last (at not_blank s) p e))) None (lt-ltb (first (at not_blank s) p e) (past_last (at not_blank s) p e) (omega (arith, a, z, d.1))))
text_only s p e None l d =
    let a = first_unique (at not_blank s) p e e l (omega arith) (λ k x y h. no_blank (get_or s k 0) h (d k x y)) (λ h. absurd (omega arith)) in
    let z = last_unique (at not_blank s) p e p (omega arith) l (λ h. absurd (omega arith)) (λ k x y h. no_blank (get_or s k 0) h (d k x y)) in
    sym (cond-false (ltb (first (at not_blank s) p e) (past_last (at not_blank s) p e)) (Some (span (first (at not_blank s) p e) (past_last (at not_blank s) p e))) None (le-ltb (first (at not_blank s) p e) (past_last (at not_blank s) p e) (omega (arith, a, z))))

-- without one final CR
cr_by : (s : List ℕ) (p e : ℕ) (a b : Bool) → ltb p e ≡ a → eqb (get_or s (e - 1) 0) 0x0D ≡ b → LessCr s p e (cond (a && b) (e - 1) e)
cr_by s p e true true x y = inl (ltb-true p e x, eqb-true (get_or s (e - 1) 0) 0x0D y, omega (arith, ltb-true p e x))
cr_by s p e true false x y = inr ((λ l h. eqb-false (get_or s (e - 1) 0) 0x0D y h), refl)
cr_by s p e false b x y = inr ((λ l h. omega (arith, ltb-false p e x)), refl)

pub cr_is : (s : List ℕ) (p e : ℕ) → LessCr s p e (without_cr s p e)
cr_is s p e = cr_by s p e (ltb p e) (eqb (get_or s (e - 1) 0) 0x0D) refl refl

cr_only_by : (s : List ℕ) (p e z : ℕ) (a b : Bool) → ltb p e ≡ a → eqb (get_or s (e - 1) 0) 0x0D ≡ b → LessCr s p e z → z ≡ cond (a && b) (e - 1) e
cr_only_by s p e z true true x y (inl d) = omega (arith, d.2)
cr_only_by s p e z true true x y (inr d) = absurd (d.0 (ltb-true p e x) (eqb-true (get_or s (e - 1) 0) 0x0D y))
cr_only_by s p e z true false x y (inl d) = absurd (eqb-false (get_or s (e - 1) 0) 0x0D y d.1)
cr_only_by s p e z true false x y (inr d) = d.1
cr_only_by s p e z false b x y (inl d) = absurd (omega (arith, ltb-false p e x, d.0))
cr_only_by s p e z false b x y (inr d) = d.1

pub cr_only : (s : List ℕ) (p e z : ℕ) → LessCr s p e z → z ≡ without_cr s p e
cr_only s p e z d = cr_only_by s p e z (ltb p e) (eqb (get_or s (e - 1) 0) 0x0D) refl refl d

pub cr_within : (s : List ℕ) (p e z : ℕ) → p ≤ e → LessCr s p e z → (p ≤ z) × (z ≤ e)
cr_within s p e z l (inl d) = (omega (arith, d.0, d.2), omega (arith, d.2))
cr_within s p e z l (inr d) = (omega (arith, d.1), omega (arith, d.1))
