-- The answer is the one that the relation allows. Assumes nothing.
use Rattle.std.proofs.Common.{◌≡◌, ℕ, zero, suc, ◌+◌, ◌<◌, ◌≤◌, Bool, true, false, cond, eqb, ltb, List, length, Some, None, Ok, Err, Option, sym, refl, ap, ◌∙◌, subst, inl, inr, ⊎_elim, arith}
use Rattle.std.proofs.lemmas.Bool.{eqb-true, eqb-false, eq-eqb, ne_eqb, cases_lt, cases_eq, ltb-true, ltb-false, lt-ltb, le-ltb, cond-true, cond-false, cond_both}
use Rattle.frontmatter.specs.declared.parse.Opening.{Opening}
use Rattle.frontmatter.specs.declared.reader.Close.{Close}
use Rattle.frontmatter.specs.declared.source.Span.{Span}
use Rattle.frontmatter.specs.declared.source.ScriptSource.{ScriptSource}
use Rattle.frontmatter.specs.declared.source.Fault.{Fault}
use Rattle.frontmatter.specs.declared.source.FaultKind.{FaultKind}
use Rattle.frontmatter.specs.declared.source.FaultKind.TheVariants.{TooFewDashes, Unclosed, FewerDashes, MoreDashes, TextAfterClose, SecondFence}
use Rattle.frontmatter.specs.Lines.{line_end, next_line, dash_end, blank_end, close_from, without_cr}
use Rattle.frontmatter.specs.Closes.{close_of}
use Rattle.frontmatter.specs.Parsed.{Answer, span, fault, text, plain, unclosed, fenced, content, close_text, close_line, closed, closing, opening_line, opened, opening, parsed, shebang, body_start}
use Rattle.frontmatter.specs.Fences.{Byte, Begins, FirstLine}
use Rattle.frontmatter.specs.Reads.{size, at_end, Opens, OpeningLine, ClosingFence, AfterClose, Closed, Content, Plain, Fenced, Reason, Reads}
use Rattle.frontmatter.proofs.Words.{dashes_are, dashes_only, line_is, line_only, next_is, next_only, blank_is, blank_only, first_line_is, first_line_only, no_line_is, no_line_only, begins_fewer, text_is, text_only, cr_is, cr_only, cr_within}
use Rattle.frontmatter.proofs.Closing.{trial_some, close_some}
use Rattle.frontmatter.proofs.Stages.{reads_on}
use Rattle.frontmatter.proofs.Openings.{fence_of, opens_is, opens_only, opening_line_is, opening_line_only}

-- what the trials find: the most dashes, n at the most, with which any line from p on begins
pub record Most (s : List ℕ) (p n : ℕ) (c : Close) : Type 0 where
  pub some : 0 < c.dashes
  pub most : c.dashes ≤ n
  pub place : c.at ≡ close_from s c.dashes p
  pub found : close_from s c.dashes p < length s
  pub no_more : (m : ℕ) → c.dashes < m → m ≤ n → length s ≤ close_from s m p

abbrev Tried : List ℕ → ℕ → ℕ → Option Close → Type 0
Tried s p n None = (m : ℕ) → 0 < m → m ≤ n → length s ≤ close_from s m p
Tried s p n (Some c) = Most s p n c

one_more : (s : List ℕ) (p n : ℕ) (o : Option Close) → length s ≤ close_from s (suc n) p → Tried s p n o → Tried s p (suc n) o
one_more s p n None none ih =
    λ m l h. ⊎_elim (λ (same : m ≡ suc n). subst (λ k. length s ≤ close_from s k p) (sym same) none) (λ (other : m ≡ suc n → ⊥). ih m l (omega (arith, other))) (cases_eq m (suc n))
one_more s p n (Some c) none ih = record {
  some = ih.some;
  most = omega (arith, ih.most);
  place = ih.place;
  found = ih.found;
  no_more = λ m l h. ⊎_elim (λ (same : m ≡ suc n). subst (λ k. length s ≤ close_from s k p) (sym same) none) (λ (other : m ≡ suc n → ⊥). ih.no_more m l (omega (arith, other))) (cases_eq m (suc n));
}

tried : (s : List ℕ) (p n : ℕ) → Tried s p n (close_of s p n)
tried s p zero = λ m l h. absurd (omega arith)
tried s p (suc n) =
    let k = close_from s (suc n) p in
    cond_both (ltb k (length s)) (Some (record { at = k; dashes = suc n })) (close_of s p n) (Tried s p (suc n))
    (λ e. record { some = omega arith; most = omega arith; place = refl; found = ltb-true k (length s) e; no_more = λ m l h. absurd (omega arith) })
    (λ e. one_more s p n (close_of s p n) (ltb-false k (length s) e) (tried s p n))

-- the closing line's text
after_by : (s : List ℕ) (p : ℕ) (b : Bool) → p ≤ length s → ltb (line_end s p) (length s) ≡ b → AfterClose s p (text s p (cond b (without_cr s p (line_end s p)) (line_end s p)))
after_by s p true l e =
    let end = line_end s p in
    let line = line_is s p l in
    let cr = cr_is s p end in
    record { end = end; line = line; text_end = without_cr s p end; less = inl (ltb-true end (length s) e, cr); text_is = text_is s p (without_cr s p end) (cr_within s p end (without_cr s p end) line.low cr).0 }
after_by s p false l e =
    let end = line_end s p in
    let line = line_is s p l in
    record { end = end; line = line; text_end = end; less = inr (omega (arith, line.high, ltb-false end (length s) e), refl); text_is = text_is s p end line.low }

after_is : (s : List ℕ) (p : ℕ) → p ≤ length s → AfterClose s p (close_text s p)
after_is s p l = after_by s p (ltb (line_end s p) (length s)) l refl

after_only : (s : List ℕ) (p : ℕ) (t : Option Span) → AfterClose s p t → t ≡ close_text s p
after_only s p t d =
    let l = line_only s p d.end d.line in
    let low = d.line.low in
    ⊎_elim
    (λ h.
    let cr = cr_only s p d.end d.text_end h.1 ∙ ap (without_cr s p) l in
    text_only s p d.text_end t (cr_within s p d.end d.text_end low h.1).0 d.text_is
    ∙ (ap (text s p) cr ∙ ap (text s p) (sym (cond-true (ltb (line_end s p) (length s)) (without_cr s p (line_end s p)) (line_end s p) (lt-ltb (line_end s p) (length s) (omega (arith, l, h.0)))))))
    (λ h.
    let e : d.text_end ≡ line_end s p = h.1 ∙ l in
    text_only s p d.text_end t (omega (arith, low, h.1)) d.text_is
    ∙ (ap (text s p) e ∙ ap (text s p) (sym (cond-false (ltb (line_end s p) (length s)) (without_cr s p (line_end s p)) (line_end s p) (le-ltb (line_end s p) (length s) (omega (arith, l, h.0)))))))
    d.less

-- a closing fence lies within the script
close_high : (s : List ℕ) (o : Opening) (close : Span) → ClosingFence s o close → close.end ≤ length s
close_high s o close d = omega (arith, d.first.begins.room, ap (λ (x : Span). x.end) d.is)

no_dash_there : (s : List ℕ) (p : ℕ) → p ≤ length s → (Byte s p 0x2D → ⊥) → p ≡ dash_end s p
no_dash_there s p l h = dashes_only s p p (record { low = omega arith; high = l; dashes = λ k a b. absurd (omega arith); all = h })

-- SOUND: what the code answers stands in the relation
content_sound : (s : List ℕ) (o : Opening) (close : Span) → Closed s o close None → Reads s (content s o close (next_line s close.end))
content_sound s o close d =
    let z = next_line s close.end in
    let f = blank_end s z in
    let high = close_high s o close d.closing in
    let blank = blank_is s z (omega arith) in
    let dashes = dashes_are s f (omega (arith, blank.high, blank.space.high)) in
    let more : Content s close z (span f (dash_end s f)) = record { next = next_is s close.end high; blank = blank; dashes = dashes } in
    cond_both (ltb f (dash_end s f)) (fault SecondFence (span f (dash_end s f)) o.fence (Some close)) (fenced s o close z) (Reads s)
    (λ e. (o, close, z, span f (dash_end s f), d, more, omega (arith, ltb-true f (dash_end s f) e), refl))
    (λ e. inr (o, close, z, span f (dash_end s f), d, more, omega (arith, ltb-false f (dash_end s f) e, dashes.low), refl))

close_line_sound : (s : List ℕ) (o : Opening) (close : Span) (t : Option Span) → Closed s o close t → Reads s (close_line s o close t)
close_line_sound s o close (Some t) d = (o, close, t, d, refl)
close_line_sound s o close None d = content_sound s o close d

closed_sound : (s : List ℕ) (o : Opening) (close : Span) → OpeningLine s o → ClosingFence s o close → Reads s (closed s o close)
closed_sound s o close line fence =
    let high = close_high s o close fence in
    let p = close.end in
    let dashes = dashes_are s p high in
    cond_both (ltb p (dash_end s p)) (fault MoreDashes (span p (dash_end s p)) o.fence None) (close_line s o close (close_text s p)) (Reads s)
    (λ e. (o, close, dash_end s p, line, fence, dashes, ltb-true p (dash_end s p) e, refl))
    (λ e.
    let same : dash_end s p ≡ p = omega (arith, ltb-false p (dash_end s p) e, dashes.low) in
    close_line_sound s o close (close_text s p) (record { opening = line; closing = fence; as_many = λ h. dashes.all (subst (λ k. Byte s k 0x2D) (sym same) h); after = after_is s p high }))

closing_sound : (s : List ℕ) (o : Opening) → OpeningLine s o → (c : Option Close) → Tried s o.end (size o.fence) c → Reads s (closing s o c)
closing_sound s o line None t =
    (o.shebang, line.body, o.fence, o.end, line.opens, line.three, line.line, no_line_is s 1 o.end (t 1 (omega arith) (omega (arith, line.three))), refl)
closing_sound s o line (Some c) t =
    let n = size o.fence in
    let low = line.feed in
    let first : FirstLine s c.dashes o.end c.at = subst (FirstLine s c.dashes o.end) (sym t.place) (first_line_is s c.dashes o.end (omega arith) t.found) in
    cond_both (ltb c.dashes n) (fault FewerDashes (span (c.at + 1) (c.at + 1 + c.dashes)) o.fence None) (closed s o (span (c.at + 1) (c.at + 1 + c.dashes))) (Reads s)
    (λ e.
    let fewer = ltb-true c.dashes n e in
    (o, c.dashes, c.at, line, t.some, fewer, first, no_line_is s (c.dashes + 1) o.end (t.no_more (c.dashes + 1) (omega arith) (omega arith)), refl))
    (λ e.
    let same : c.dashes ≡ n = omega (arith, t.most, ltb-false c.dashes n e) in
    closed_sound s o (span (c.at + 1) (c.at + 1 + c.dashes)) line
    (record { place = c.at; first = subst (λ m. FirstLine s m o.end c.at) same first; is = ap (λ m. span (c.at + 1) (c.at + 1 + m)) same }))

opened_sound : (s : List ℕ) (sh : Option Span) (body : ℕ) (f : Span) → Opens s sh body f → 3 ≤ size f → Reads s (opened s sh f)
opened_sound s sh body f d three =
    let l = line_end s f.end in
    let line = line_is s f.end d.dashes.high in
    cond_both (ltb l (length s)) (closing s (opening_line s sh f l) (close_of s l (size f))) (unclosed s f) (Reads s)
    (λ e. closing_sound s (opening_line s sh f l) (opening_line_is s sh body f d three (ltb-true l (length s) e)) (close_of s l (size f)) (tried s l (size f)))
    (λ e. (sh, body, f, l, d, three, line, (λ k a b. omega (arith, b.feed.0, ltb-false l (length s) e)), refl))

opening_sound : (s : List ℕ) (sh : Option Span) (body : ℕ) (f : Span) → Opens s sh body f → Reads s (opening s sh body f)
opening_sound s sh body f d =
    cond_both (eqb (size f) 0) (plain s sh body) (cond (ltb (size f) 3) (fault TooFewDashes (at_end s) f None) (opened s sh f)) (Reads s)
    (λ e. inl (body, f, d, omega (arith, eqb-true (size f) 0 e, d.dashes.low), refl))
    (λ e.
    cond_both (ltb (size f) 3) (fault TooFewDashes (at_end s) f None) (opened s sh f) (Reads s)
    (λ few. (sh, body, f, d, omega (arith, eqb-false (size f) 0 e), ltb-true (size f) 3 few, refl))
    (λ many. opened_sound s sh body f d (ltb-false (size f) 3 many)))

pub sound : (s : List ℕ) → Reads s (parsed s)
sound s = opening_sound s (shebang s) (body_start s) (fence_of s) (opens_is s)

-- ONLY: whatever stands in the relation is what the code answers
closed_only : (s : List ℕ) (o : Opening) (close : Span) → OpeningLine s o → ClosingFence s o close → parsed s ≡ closed s o close
closed_only s o close line fence =
    let n = size o.fence in
    let k = fence.place in
    let is = first_line_only s n o.end k fence.first in
    let found = close_some s o.end n k (omega (arith, line.three)) (trial_some s n o.end k is fence.first.begins.feed.0) in
    opening_line_only s o line
    ∙ (ap (closing s o) found
    ∙ (cond-false (ltb n n) (fault FewerDashes (span (k + 1) (k + 1 + n)) o.fence None) (closed s o (span (k + 1) (k + 1 + n))) (le-ltb n n (omega arith))
    ∙ ap (closed s o) (sym fence.is)))

close_line_only : (s : List ℕ) (o : Opening) (close : Span) (t : Option Span) → Closed s o close t → parsed s ≡ close_line s o close t
close_line_only s o close t d =
    let p = close.end in
    let none = no_dash_there s p (close_high s o close d.closing) d.as_many in
    closed_only s o close d.opening d.closing
    ∙ (cond-false (ltb p (dash_end s p)) (fault MoreDashes (span p (dash_end s p)) o.fence None) (close_line s o close (close_text s p)) (le-ltb p (dash_end s p) (omega (arith, none)))
    ∙ ap (close_line s o close) (sym (after_only s p t d.after)))

content_only : (s : List ℕ) (o : Opening) (close : Span) (z : ℕ) (second : Span) → Closed s o close None → Content s close z second → (parsed s ≡ content s o close z) × (second ≡ span (blank_end s z) (dash_end s (blank_end s z)))
content_only s o close z second d c =
    let start = blank_only s z second.start c.blank in
    let end = dashes_only s second.start second.end c.dashes ∙ ap (dash_end s) start in (
      close_line_only s o close None d ∙ ap (content s o close) (sym (next_only s close.end z c.next)),
      ap (λ x. span x second.end) start ∙ ap (span (blank_end s z)) end,
    )

plain_only : (s : List ℕ) (r : ScriptSource) → Plain s r → Ok r ≡ parsed s
plain_only s r d =
    let f = d.1 in
    sym (opens_only s r.shebang d.0 f d.2
    ∙ (cond-true (eqb (size f) 0) (plain s r.shebang d.0) (cond (ltb (size f) 3) (fault TooFewDashes (at_end s) f None) (opened s r.shebang f)) (eq-eqb (size f) 0 (omega (arith, d.3)))
    ∙ ap Ok (sym d.4)))

fenced_only : (s : List ℕ) (r : ScriptSource) → Fenced s r → Ok r ≡ parsed s
fenced_only s r d =
    let o = d.0 in
    let close = d.1 in
    let z = d.2 in
    let both = content_only s o close z d.3 d.4 d.5 in
    let f = blank_end s z in
    let none : dash_end s f ≤ f = omega (arith, d.6, ap (λ (x : Span). x.start) both.1, ap (λ (x : Span). x.end) both.1) in
    sym (both.0
    ∙ (cond-false (ltb f (dash_end s f)) (fault SecondFence (span f (dash_end s f)) o.fence (Some close)) (fenced s o close z) (le-ltb f (dash_end s f) none)
    ∙ ap Ok (sym d.7)))

-- trials that find nothing, or fewer dashes
none_found : (s : List ℕ) (p n : ℕ) (o : Option Close) → Tried s p n o → length s ≤ close_from s 1 p → o ≡ None
none_found s p n None t none = refl
none_found s p n (Some c) t none =
    let nowhere = no_line_only s c.dashes p (λ k a b. no_line_is s 1 p none k a (begins_fewer s 1 c.dashes k t.some b)) in
    absurd (omega (arith, t.found, nowhere))

most_found : (s : List ℕ) (p n m k : ℕ) (o : Option Close) → Tried s p n o → 0 < m → m ≤ n → p ≤ length s → FirstLine s m p k → ((j : ℕ) → p ≤ j → Begins s (m + 1) j → ⊥) → o ≡ Some (record { at = k; dashes = m })
most_found s p n m k None t some most l first no_more =
    let is = first_line_only s m p k first in
    absurd (omega (arith, t m some most, is, first.begins.feed.0))
most_found s p n m k (Some c) t some most l first no_more =
    let is = first_line_only s m p k first in
    let inside = first.begins.feed.0 in
    let found = first_line_is s c.dashes p l t.found in
    let same : c.dashes ≡ m =
    ⊎_elim
    (λ (less : c.dashes < m). absurd (omega (arith, t.no_more m less most, is, inside)))
    (λ (more : m ≤ c.dashes).
    ⊎_elim
    (λ (too_many : m < c.dashes). absurd (no_more (close_from s c.dashes p) found.low (begins_fewer s (m + 1) c.dashes (close_from s c.dashes p) (omega arith) found.begins)))
    (λ (enough : c.dashes ≤ m). omega arith)
    (cases_lt m c.dashes))
    (cases_lt c.dashes m) in
    let place : c.at ≡ k = t.place ∙ (ap (λ x. close_from s x p) same ∙ sym is) in
    ap (λ (x : ℕ). Some (record { at = x; dashes = c.dashes })) place ∙ ap (λ (x : ℕ). Some (record { at = k; dashes = x })) same

unclosed_by : (s : List ℕ) (sh : Option Span) (f : Span) (l : ℕ) → l ≡ line_end s f.end → ((k : ℕ) → l ≤ k → Begins s 1 k → ⊥) → opened s sh f ≡ unclosed s f
unclosed_by s sh f l e none =
    let m = line_end s f.end in
    let no_close = none_found s m (size f) (close_of s m (size f)) (tried s m (size f)) (no_line_only s 1 m (λ k a b. none k (omega (arith, e, a)) b)) in
    cond_both (ltb m (length s)) (closing s (opening_line s sh f m) (close_of s m (size f))) (unclosed s f) (λ x. x ≡ unclosed s f)
    (λ _. ap (closing s (opening_line s sh f m)) no_close)
    (λ _. refl)

unclosed_only : (s : List ℕ) (f : Fault) → Reason s f Unclosed → Err f ≡ parsed s
unclosed_only s f d =
    let open_at = d.2 in
    let l = line_only s open_at.end d.3 d.6 in
    sym (opens_only s d.0 d.1 open_at d.4
    ∙ (reads_on s d.0 d.1 open_at d.5
    ∙ (unclosed_by s d.0 open_at d.3 l d.7 ∙ ap Err (sym d.8))))

fewer_only : (s : List ℕ) (f : Fault) → Reason s f FewerDashes → Err f ≡ parsed s
fewer_only s f d =
    let o = d.0 in
    let n = d.1 in
    let k = d.2 in
    let line = d.3 in
    let full = size o.fence in
    let found = most_found s o.end full n k (close_of s o.end full) (tried s o.end full) d.4 (omega (arith, d.5)) (omega (arith, line.feed)) d.6 d.7 in
    sym (opening_line_only s o line
    ∙ (ap (closing s o) found
    ∙ (cond-true (ltb n full) (fault FewerDashes (span (k + 1) (k + 1 + n)) o.fence None) (closed s o (span (k + 1) (k + 1 + n))) (lt-ltb n full d.5)
    ∙ ap Err (sym d.8))))

fault_only : (s : List ℕ) (f : Fault) (k : FaultKind) → Reason s f k → Err f ≡ parsed s
fault_only s f TooFewDashes d =
    let open_at = d.2 in
    sym (opens_only s d.0 d.1 open_at d.3
    ∙ (cond-false (eqb (size open_at) 0) (plain s d.0 d.1) (cond (ltb (size open_at) 3) (fault TooFewDashes (at_end s) open_at None) (opened s d.0 open_at)) (ne_eqb (size open_at) 0 (λ e. omega (arith, d.4, e)))
    ∙ (cond-true (ltb (size open_at) 3) (fault TooFewDashes (at_end s) open_at None) (opened s d.0 open_at) (lt-ltb (size open_at) 3 d.5)
    ∙ ap Err (sym d.6))))
fault_only s f Unclosed d = unclosed_only s f d
fault_only s f FewerDashes d = fewer_only s f d
fault_only s f MoreDashes d =
    let o = d.0 in
    let close = d.1 in
    let p = close.end in
    let e = dashes_only s p d.2 d.5 in
    sym (closed_only s o close d.3 d.4
    ∙ (cond-true (ltb p (dash_end s p)) (fault MoreDashes (span p (dash_end s p)) o.fence None) (close_line s o close (close_text s p)) (lt-ltb p (dash_end s p) (omega (arith, e, d.6)))
    ∙ (ap (λ x. fault MoreDashes (span p x) o.fence None) (sym e) ∙ ap Err (sym d.7))))
fault_only s f TextAfterClose d = sym (close_line_only s d.0 d.1 (Some d.2) d.3 ∙ ap Err (sym d.4))
fault_only s f SecondFence d =
    let o = d.0 in
    let close = d.1 in
    let z = d.2 in
    let both = content_only s o close z d.3 d.4 d.5 in
    let g = blank_end s z in
    let some : g < dash_end s g = omega (arith, d.6, ap (λ (x : Span). x.start) both.1, ap (λ (x : Span). x.end) both.1) in
    sym (both.0
    ∙ (cond-true (ltb g (dash_end s g)) (fault SecondFence (span g (dash_end s g)) o.fence (Some close)) (fenced s o close z) (lt-ltb g (dash_end s g) some)
    ∙ (ap (λ x. fault SecondFence x o.fence (Some close)) (sym both.1) ∙ ap Err (sym d.7))))

pub only : (s : List ℕ) (a : Answer) → Reads s a → a ≡ parsed s
only s (Ok r) d = ⊎_elim (plain_only s r) (fenced_only s r) d
only s (Err f) d = fault_only s f f.kind d
