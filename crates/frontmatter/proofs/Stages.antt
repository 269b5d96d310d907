-- A fence of three dashes or more is read on. Assumes nothing.
use Rattle.std.proofs.Common.{◌≡◌, ℕ, ◌-◌, ◌≤◌, cond, eqb, ltb, List, length, None, Option, ap, ◌∙◌, arith}
use Rattle.std.proofs.lemmas.Bool.{cond-false, ne_eqb, le-ltb}
use Rattle.frontmatter.specs.declared.source.Span.{Span}
use Rattle.frontmatter.specs.declared.source.FaultKind.TheVariants.{TooFewDashes}
use Rattle.frontmatter.specs.Lines.{dash_end, blank_end}
use Rattle.frontmatter.specs.Parsed.{Answer, span, fault, shebang, body_start, plain, opened, opening, parsed}

pub reads_on : (s : List ℕ) (sh : Option Span) (body : ℕ) (f : Span) → 3 ≤ f.end - f.start → opening s sh body f ≡ opened s sh f
reads_on s sh body f l =
    cond-false (eqb (f.end - f.start) 0) (plain s sh body) (cond (ltb (f.end - f.start) 3) (fault TooFewDashes (span (length s) (length s)) f None) (opened s sh f)) (ne_eqb (f.end - f.start) 0 (λ e. omega arith))
    ∙ cond-false (ltb (f.end - f.start) 3) (fault TooFewDashes (span (length s) (length s)) f None) (opened s sh f) (le-ltb (f.end - f.start) 3 l)

-- what is read from the first dashes on is the answer for the script
pub whole : (s s' : List ℕ) (sh : Option Span) (body : ℕ) (f : Span) (r : Answer) → s' ≡ s → sh ≡ shebang s → body ≡ body_start s → f.start ≡ blank_end s body → f.end ≡ dash_end s f.start → r ≡ opening s' sh body f → r ≡ parsed s
whole s s' sh body f r bytes she begins start end e =
    let o = blank_end s (body_start s) in
    let at_start : f.start ≡ o = start ∙ ap (blank_end s) begins in
    let at_end : f.end ≡ dash_end s o = end ∙ ap (dash_end s) at_start in
    let is : f ≡ span o (dash_end s o) = ap (λ a. span a f.end) at_start ∙ ap (span o) at_end in
    e ∙ (ap (λ z. opening z sh body f) bytes ∙ (ap (λ z. opening s z body f) she ∙ (ap (λ z. opening s (shebang s) z f) begins ∙ ap (opening s (shebang s) (body_start s)) is)))
