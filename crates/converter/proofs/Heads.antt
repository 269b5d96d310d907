-- The head's tokens stand one after the other, at boundaries.
use Rattle.std.proofs.Common.{◌≡◌, ℕ, ◌+◌, ◌<◌, ◌≤◌, true, false, ◌&&◌, ◌||◌, eqb, leb, List, length, Some, None, Ok, Err, Option, sym, ap, ◌∙◌, subst, ⊎_elim, arith, leb-true}
use Rattle.std.proofs.lemmas.Bool.{and_parts, cond_both}
use Rattle.std.specs.Prelude.{MatchOption, IsSomeAnd}
use Rattle.script.specs.Admission.{admits}
use Rattle.script.specs.Places.{boundary}
use Rattle.script.proofs.Bounds.{ascii_after, boundary_end}
use Rattle.frontmatter.specs.declared.source.Span.{Span}
use Rattle.frontmatter.specs.declared.source.ScriptSource.{ScriptSource}
use Rattle.frontmatter.specs.Fences.{NextLine}
use Rattle.frontmatter.specs.declared.source.Fault.{Fault}
use Rattle.frontmatter.specs.Parsed.{Answer, parsed}
use Rattle.frontmatter.specs.Reads.{Shebang, Plain, Fenced, Reads, size}
use Rattle.raw.specs.Laws.{shebang_keeps}
use Rattle.converter.specs.declared.progress.Head.{Head}
use Rattle.converter.specs.Columns.{EndsPast, end_or, HeadFits}
use Rattle.converter.specs.Lexing.{line_end, content_start, told, head_ends}

module _ (bs : List ℕ) (a : admits bs ≡ true) where
  -- a line goes on at a boundary
  next_line : (p z : ℕ) → NextLine bs p z → (p ≤ z) × (z ≤ length bs) × (boundary bs z ≡ true)
  next_line p z (e, line, ends) =
      ⊎_elim (λ h. (omega (arith, line.low, h.1), omega (arith, h.0, h.1), ap (boundary bs) h.1 ∙ ascii_after bs e a h.0 (omega (arith, line.ends h.0))))
      (λ h. (omega (arith, line.low, h.0, h.1), omega (arith, h.1), boundary_end bs z h.1)) ends

  some_line : (z : ℕ) → 0 < length bs → NextLine bs 0 z → 0 < z
  some_line z l (e, line, ends) = ⊎_elim (λ h. omega (arith, h.1)) (λ h. omega (arith, h.1)) ends

  shebang_fits : (o : Option Span) (body : ℕ) → Shebang bs o body → EndsPast bs 0 (line_end o) × (end_or 0 (line_end o) ≡ body)
  shebang_fits None body h = (tt, sym h.1)
  shebang_fits (Some line) body h =
      let e : line.end ≡ body = ap (λ (x : Span). x.end) h.3 in
      let n = next_line 0 body h.2 in
      let some = some_line body h.0.0.0 h.2 in
      ((omega arith, omega (arith, n.1), ap (boundary bs) e ∙ n.2), e)

  plain_fits : (r : ScriptSource) (n : ℕ) → Plain bs r → HeadFits bs (head_ends (Ok r) n)
  plain_fits r n (body, fence, opens, ends, is) =
      let none : content_start r.frontmatter r.content.start ≡ None = ap (λ (x : ScriptSource). content_start x.frontmatter x.content.start) is in
      record {
        shebang = (shebang_fits r.shebang body opens.before).0;
        frontmatter = subst (EndsPast bs (end_or 0 (line_end r.shebang))) (sym none) tt;
      }

  fenced_fits : (r : ScriptSource) (n : ℕ) → Fenced bs r → HeadFits bs (head_ends (Ok r) n)
  fenced_fits r n (o, close, z, second, closed, content, ends, is) =
      let opening = closed.opening in
      let sb = shebang_fits o.shebang opening.body opening.opens.before in
      let next = next_line close.end z content.next in
      let close_end : close.end ≡ closed.closing.place + 1 + size o.fence = ap (λ (x : Span). x.end) closed.closing.is in
      let past : end_or 0 (line_end o.shebang) < z =
      omega (arith, sb.1, opening.opens.blank.low, opening.three, opening.line.low, closed.closing.first.low, close_end, next.0) in
      subst (λ (x : ScriptSource). HeadFits bs (head_ends (Ok x) n)) (sym is) (record { shebang = sb.0; frontmatter = (past, next.1, next.2) })

  pub head_fits : (r : ScriptSource) (n : ℕ) → Reads bs (Ok r) → HeadFits bs (head_ends (Ok r) n)
  head_fits r n h = ⊎_elim (plain_fits r n) (fenced_fits r n) h

  pub told_fits : (n : ℕ) → shebang_keeps bs n ≡ true → HeadFits bs (record { shebang = told n; frontmatter = None })
  told_fits n e =
      let rest : eqb n 0 ≡ false → (2 ≤ n) × (n ≤ length bs) × (boundary bs n ≡ true) = λ no.
      let two = and_parts (leb 2 n) (leb n (length bs) && boundary bs n) (ap (λ b. b || (leb 2 n && (leb n (length bs) && boundary bs n))) (sym no) ∙ e) in
      let more = and_parts (leb n (length bs)) (boundary bs n) two.1 in
      (leb-true 2 n two.0, leb-true n (length bs) more.0, more.1) in
      record {
        shebang = cond_both (eqb n 0) None (Some n) (EndsPast bs 0) (λ yes. tt) (λ no. let h = rest no in (omega (arith, h.0), h.1, h.2));
        frontmatter = tt;
      }

-- what `map` gives of a span that may be there
pub mapped_end : (o : Option Span) (r : Option ℕ) (P : Span → ℕ → Type 0) → ((x : Span) (y : ℕ) → P x y → y ≡ x.end) → MatchOption o (r ≡ None) (λ x. IsSomeAnd r (P x)) → r ≡ line_end o
mapped_end None r P calls h = h
mapped_end (Some x) None P calls h = absurd h
mapped_end (Some x) (Some y) P calls h = ap (λ z. Some z) (calls x y h)

pub mapped_start : (o : Option Span) (content : ℕ) (r : Option ℕ) (P : Span → ℕ → Type 0) → ((x : Span) (y : ℕ) → P x y → y ≡ content) → MatchOption o (r ≡ None) (λ x. IsSomeAnd r (P x)) → r ≡ content_start o content
mapped_start None content r P calls h = h
mapped_start (Some x) content None P calls h = absurd h
mapped_start (Some x) content (Some y) P calls h = ap (λ z. Some z) (calls x y h)

-- as the code has it: from the bytes xs that were asked for
pub parts_head : (bs xs : List ℕ) (r : ScriptSource) (n : ℕ) (sh fm : Option ℕ) → admits bs ≡ true → xs ≡ bs → Ok r ≡ parsed xs → Reads xs (Ok r) → sh ≡ line_end r.shebang → fm ≡ content_start r.frontmatter r.content.start
    → (◌≡◌ {A = Head} (record { shebang = sh; frontmatter = fm }) (head_ends (parsed bs) n)) × HeadFits bs (record { shebang = sh; frontmatter = fm })
parts_head bs xs r n sh fm a same is reads es ef =
    let e : ◌≡◌ {A = Head} (record { shebang = sh; frontmatter = fm }) (head_ends (Ok r) n) = cc in
    (e ∙ ap (λ x. head_ends x n) (is ∙ ap parsed same), subst (HeadFits bs) (sym e) (head_fits bs a r n (subst (λ b. Reads b (Ok r)) same reads)))

pub told_head : (bs xs : List ℕ) (f : Fault) (n : ℕ) (sh : Option ℕ) → admits bs ≡ true → xs ≡ bs → Err f ≡ parsed xs → shebang_keeps bs n ≡ true → sh ≡ told n
    → (◌≡◌ {A = Head} (record { shebang = sh; frontmatter = None }) (head_ends (parsed bs) n)) × HeadFits bs (record { shebang = sh; frontmatter = None })
told_head bs xs f n sh a same is keeps es =
    let e : ◌≡◌ {A = Head} (record { shebang = sh; frontmatter = None }) (head_ends (Err f) n) = cc in
    (e ∙ ap (λ x. head_ends x n) (is ∙ ap parsed same), subst (HeadFits bs) (sym e) (told_fits bs a n keeps))

pub heads : (bs : List ℕ) → admits bs ≡ true → (x : Answer) (n : ℕ) → Reads bs x → shebang_keeps bs n ≡ true → HeadFits bs (head_ends x n)
heads bs a (Ok r) n reads keeps = head_fits bs a r n reads
heads bs a (Err f) n reads keeps = told_fits bs a n keeps
