-- The spans of a right answer lie in order, at boundaries. Assumes nothing.
use Rattle.std.proofs.Common.{◌≡◌, ℕ, ◌+◌, ◌-◌, ◌<◌, ◌≤◌, true, List, [], ◌∷◌, length, get_or, Some, None, Ok, Err, Option, sym, refl, ap, ◌∙◌, subst, inl, inr, ⊎_elim, arith}
use Rattle.std.proofs.lemmas.Bool.{cases_lt}
use Rattle.std.specs.List.{AllByRecursion}
use Rattle.script.specs.Admission.{admits}
use Rattle.script.proofs.Bounds.{boundary_start, boundary_end, ascii_before, ascii_after}
use Rattle.frontmatter.specs.declared.parse.Opening.{Opening}
use Rattle.frontmatter.specs.declared.source.Span.{Span}
use Rattle.frontmatter.specs.declared.source.ScriptSource.{ScriptSource}
use Rattle.frontmatter.specs.declared.source.Fault.{Fault}
use Rattle.frontmatter.specs.declared.source.FaultKind.{FaultKind}
use Rattle.frontmatter.specs.declared.source.FaultKind.TheVariants.{TooFewDashes, Unclosed, FewerDashes, MoreDashes, TextAfterClose, SecondFence}
use Rattle.frontmatter.specs.Parsed.{Answer, span}
use Rattle.frontmatter.specs.Fences.{Blank, Dashes, Line, NextLine, BlankLines, Begins, Text, LessCr}
use Rattle.frontmatter.specs.Reads.{size, at_end, Shebang, Opens, ClosingFence, AfterClose, Content, Plain, Fenced, Reason, Reads}
use Rattle.frontmatter.specs.Placed.{Boundary, Sits, also, InOrder, shown, Placed}
use Rattle.frontmatter.proofs.Words.{cr_within}

blank_low : (b : ℕ) → Blank b → b < 128
blank_low b h = ⊎_elim (λ (e : b ≡ 0x20). omega arith) (λ (e : b ≡ 0x09). omega arith) h

-- what lies in order from q on does so from any earlier place on
lower : (s : List ℕ) (p q : ℕ) (xs : List Span) → p ≤ q → InOrder s q xs → InOrder s p xs
lower s p q [] l d = tt
lower s p q (x ∷ xs) l d = (omega (arith, d.0), d.1, d.2)

module _ (s : List ℕ) (a : admits s ≡ true) where
  after_byte : (p b : ℕ) → 0 < p → p ≤ length s → get_or s (p - 1) 0 ≡ b → b < 128 → Boundary s p
  after_byte p b l h e low =
      let back : p - 1 + 1 ≡ p = omega arith in
      subst (Boundary s) back (ascii_after s (p - 1) a (omega arith) (omega (arith, e)))

  line_bounds : (p e : ℕ) → Line s p e → Boundary s e
  line_bounds p e d =
      ⊎_elim
      (λ (inside : e < length s). ascii_before s e inside (omega (arith, d.ends inside)))
      (λ (end : length s ≤ e). boundary_end s e (omega (arith, d.high)))
      (cases_lt e (length s))

  next_bounds : (p z : ℕ) → NextLine s p z → (p ≤ z) × (z ≤ length s) × Boundary s z
  next_bounds p z d =
      let line = d.1 in
      ⊎_elim
      (λ h. (omega (arith, line.low, h.1), omega (arith, h.0, h.1), after_byte z 0x0A (omega (arith, h.1)) (omega (arith, h.0, h.1)) (ap (λ k. get_or s k 0) (omega (arith, h.1)) ∙ line.ends h.0) (omega arith)))
      (λ h. (omega (arith, line.low, h.0, h.1), omega (arith, h.1), boundary_end s z h.1))
      d.2

  blank_bounds : (p q : ℕ) → BlankLines s p q → Boundary s p → Boundary s q
  blank_bounds p q d b =
      ⊎_elim
      (λ (same : q ≡ p). subst (Boundary s) (sym same) b)
      (λ h. after_byte q 0x0A (omega (arith, h.0)) (omega (arith, d.high, d.space.high)) h.1 (omega arith))
      d.lines

  dash_bounds : (p e : ℕ) → Dashes s p e → Boundary s p → Boundary s e
  dash_bounds p e d b =
      ⊎_elim
      (λ (some : p < e). after_byte e 0x2D (omega arith) d.high (d.dashes (e - 1) (omega arith) (omega arith)) (omega arith))
      (λ (none : e ≤ p). subst (Boundary s) (omega (arith, d.low)) b)
      (cases_lt p e)

  begins_bounds : (n k : ℕ) → Begins s n k → Boundary s (k + 1) × Boundary s (k + 1 + n)
  begins_bounds n k d =
      let start = ascii_after s k a d.feed.0 (omega (arith, d.feed.1)) in (
        start,
        ⊎_elim
            (λ (some : 0 < n). after_byte (k + 1 + n) 0x2D (omega arith) d.room (d.dashes (k + 1 + n - 1) (omega arith) (omega arith)) (omega arith))
            (λ (none : n ≤ 0). subst (Boundary s) (omega arith) start)
            (cases_lt 0 n),
      )

  text_bounds : (p e : ℕ) (t : Span) → Text s p e (Some t) → e ≤ length s → Boundary s p → Boundary s e → Boundary s t.start × Boundary s t.end
  text_bounds p e t d high b c = (
    ⊎_elim
        (λ (more : p < t.start).
        let byte = d.3 (t.start - 1) (omega arith) (omega arith) in
        after_byte t.start (get_or s (t.start - 1) 0) (omega arith) (omega (arith, d.1, d.2)) refl (blank_low (get_or s (t.start - 1) 0) byte))
        (λ (same : t.start ≤ p). subst (Boundary s) (omega (arith, d.0)) b)
        (cases_lt p t.start),
    ⊎_elim
        (λ (less : t.end < e). ascii_before s t.end (omega arith) (blank_low (get_or s t.end 0) (d.4 t.end (omega arith) less)))
        (λ (same : e ≤ t.end). subst (Boundary s) (omega (arith, d.2)) c)
        (cases_lt t.end e),
  )

  cr_bounds : (p e z : ℕ) → e ≤ length s → LessCr s p e z → Boundary s e → Boundary s z
  cr_bounds p e z high (inl d) b =
      let back : z ≡ e - 1 = omega (arith, d.2) in
      ascii_before s z (omega (arith, d.2)) (omega (arith, d.1, ap (λ k. get_or s k 0) back))
  cr_bounds p e z high (inr d) b = subst (Boundary s) (sym d.1) b

  -- the parts before and with the opening fence
  shebang_order : (sh : Option Span) (body : ℕ) (xs : List Span) → Shebang s sh body → InOrder s body xs → InOrder s 0 (also sh xs)
  shebang_order (Some line) body xs d rest =
      let next = next_bounds 0 body d.2 in
      subst (λ l. InOrder s 0 (l ∷ xs)) (sym d.3) (omega arith, (omega arith, boundary_start s a, next.2), rest)
  shebang_order None body xs d rest = subst (λ k. InOrder s k xs) d.1 rest

  body_bounds : (sh : Option Span) (body : ℕ) → Shebang s sh body → Boundary s body
  body_bounds (Some line) body d = (next_bounds 0 body d.2).2
  body_bounds None body d = subst (Boundary s) (sym d.1) (boundary_start s a)

  fence_sits : (sh : Option Span) (body : ℕ) (f : Span) → Opens s sh body f → Sits s f
  fence_sits sh body f d =
      let start = blank_bounds body f.start d.blank (body_bounds sh body d.before) in
      (d.dashes.low, start, dash_bounds f.start f.end d.dashes start)

  info_order : (p e q : ℕ) (i : Option Span) (xs : List Span) → Text s p e i → e ≤ length s → Boundary s p → Boundary s e → p ≤ e → e ≤ q → InOrder s q xs → InOrder s p (also i xs)
  info_order p e q (Some t) xs d high b c l m rest =
      let bounds = text_bounds p e t d high b c in
      (d.0, (omega (arith, d.1), bounds.0, bounds.1), lower s t.end q xs (omega (arith, d.2)) rest)
  info_order p e q None xs d high b c l m rest = lower s p q xs (omega arith) rest

  close_sits : (o : Opening) (close : Span) → ClosingFence s o close → Sits s close × (o.end + 1 ≤ close.start) × (close.end ≤ length s)
  close_sits o close d =
      let both = begins_bounds (size o.fence) d.place d.first.begins in
      let start : close.start ≡ d.place + 1 = ap (λ (x : Span). x.start) d.is in
      let end : close.end ≡ d.place + 1 + size o.fence = ap (λ (x : Span). x.end) d.is in
      ((omega arith, subst (Boundary s) (sym start) both.0, subst (Boundary s) (sym end) both.1), omega (arith, d.first.low), omega (arith, d.first.begins.room))

  text_end_bounds : (p : ℕ) (t : Option Span) (d : AfterClose s p t) → Boundary s d.text_end × (d.text_end ≤ length s)
  text_end_bounds p t d =
      let end = line_bounds p d.end d.line in
      let high = d.line.high in
      ⊎_elim
      (λ h. (cr_bounds p d.end d.text_end high h.1 end, omega (arith, (cr_within s p d.end d.text_end d.line.low h.1).1)))
      (λ h. (subst (Boundary s) (sym h.1) end, omega (arith, h.1)))
      d.less

  second_sits : (o : Opening) (close : Span) (z : ℕ) (x : Span) → ClosingFence s o close → Content s close z x → Sits s x
  second_sits o close z x f d =
      let start = blank_bounds z x.start d.blank (next_bounds close.end z d.next).2 in
      (d.dashes.low, start, dash_bounds x.start x.end d.dashes start)

  end_sits : Sits s (at_end s)
  end_sits = (omega arith, boundary_end s (length s) refl, boundary_end s (length s) refl)

  plain_placed : (r : ScriptSource) → Plain s r → Placed s (Ok r)
  plain_placed r d =
      let body = d.0 in
      let before = d.2.before in
      let low : body ≤ length s = omega (arith, d.2.blank.space.low, d.2.blank.space.high) in
      let rest : InOrder s body (span body (length s) ∷ []) = (omega arith, (low, body_bounds r.shebang body before, boundary_end s (length s) refl), tt) in
      subst (λ x. Placed s (Ok x)) (sym d.4) (shebang_order r.shebang body (span body (length s) ∷ []) before rest, refl)

  fenced_placed : (r : ScriptSource) → Fenced s r → Placed s (Ok r)
  fenced_placed r d =
      let o = d.0 in
      let close = d.1 in
      let z = d.2 in
      let line = d.4.opening in
      let opens = line.opens in
      let fence = fence_sits o.shebang line.body o.fence opens in
      let closes = close_sits o close d.4.closing in
      let next = next_bounds close.end z d.5.next in
      let end = line_bounds o.fence.end o.end line.line in
      let feed = line.feed in
      let after_feed = ascii_after s o.end a feed (omega (arith, line.line.ends feed)) in
      let cr = cr_within s o.fence.end o.end line.info_end line.line.low line.less_cr in
      let content : InOrder s close.end (span z (length s) ∷ []) = (next.0, (next.1, next.2, boundary_end s (length s) refl), tt) in
      let closing : InOrder s (o.end + 1) (span (o.end + 1) close.start ∷ (close ∷ (span z (length s) ∷ []))) =
      (omega arith, (closes.1, after_feed, closes.0.1), (omega arith, closes.0, content)) in
      let info = info_order o.fence.end line.info_end (o.end + 1) o.info (span (o.end + 1) close.start ∷ (close ∷ (span z (length s) ∷ []))) line.info (omega (arith, cr.1)) fence.2 (cr_bounds o.fence.end o.end line.info_end line.line.high line.less_cr end) cr.0 (omega (arith, cr.1)) closing in
      subst (λ x. Placed s (Ok x)) (sym d.7) (shebang_order o.shebang line.body (o.fence ∷ also o.info (span (o.end + 1) close.start ∷ (close ∷ (span z (length s) ∷ [])))) opens.before (opens.blank.low, fence, info), refl)

  fault_placed : (f : Fault) (k : FaultKind) → Reason s f k → Placed s (Err f)
  fault_placed f TooFewDashes d = subst (λ x. AllByRecursion (Sits s) (shown x)) (sym d.6) (end_sits, (fence_sits d.0 d.1 d.2 d.3, tt))
  fault_placed f Unclosed d = subst (λ x. AllByRecursion (Sits s) (shown x)) (sym d.8) (end_sits, (fence_sits d.0 d.1 d.2 d.4, tt))
  fault_placed f FewerDashes d =
      let both = begins_bounds d.1 d.2 d.6.begins in
      subst (λ x. AllByRecursion (Sits s) (shown x)) (sym d.8) ((omega arith, both.0, both.1), (fence_sits d.0.shebang d.3.body d.0.fence d.3.opens, tt))
  fault_placed f MoreDashes d =
      let closes = close_sits d.0 d.1 d.4 in
      subst (λ x. AllByRecursion (Sits s) (shown x)) (sym d.7) ((d.5.low, closes.0.2, dash_bounds d.1.end d.2 d.5 closes.0.2), (fence_sits d.0.shebang d.3.body d.0.fence d.3.opens, tt))
  fault_placed f TextAfterClose d =
      let closes = close_sits d.0 d.1 d.3.closing in
      let after = d.3.after in
      let end = text_end_bounds d.1.end (Some d.2) after in
      let bounds = text_bounds d.1.end after.text_end d.2 after.text_is end.1 closes.0.2 end.0 in
      subst (λ x. AllByRecursion (Sits s) (shown x)) (sym d.4) ((omega (arith, after.text_is.1), bounds.0, bounds.1), (fence_sits d.0.shebang d.3.opening.body d.0.fence d.3.opening.opens, tt))
  fault_placed f SecondFence d =
      subst (λ x. AllByRecursion (Sits s) (shown x)) (sym d.7)
      (second_sits d.0 d.1 d.2 d.3 d.4.closing d.5, (fence_sits d.0.shebang d.4.opening.body d.0.fence d.4.opening.opens, ((close_sits d.0 d.1 d.4.closing).0, tt)))

  pub placed : (x : Answer) → Reads s x → Placed s x
  placed (Ok r) d = ⊎_elim (plain_placed r) (fenced_placed r) d
  placed (Err f) d = fault_placed f f.kind d
