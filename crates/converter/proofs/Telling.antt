-- What is said of a token, told one by one.
use Rattle.std.proofs.Common.{◌≡◌, ℕ, zero, suc, true, ◌+◌, ◌<◌, List, [], ◌∷◌, ◌++◌, Some, None, Option, sym, refl, ap, ◌∙◌, subst, length, arith}
use Rattle.std.specs.Prelude.{MatchOption, IfSome, slice_get}
use Rattle.std.specs.Iterator.Runs.{Run, YieldsRun, AllItemsGive, SomeRun, IsFirstToGive}
use Rattle.std.specs.Bool.{IsTrue}
use Rattle.std.proofs.lemmas.Option.{IfSome_then}
use Rattle.std.specs.Fn.{Called}
use Rattle.std.specs.Iterator.{YieldsFirst, YieldsFirstBy, Yields, FindsMapped, MakesProgress, item_count}
use Rattle.std.specs.List.{FoldsTo}
use denote.Param.Members.{Mut}
use Rattle.raw.specs.declared.kinds.EscapeError.{EscapeError}
use Rattle.converter.specs.declared.message.Message.{Message}
use Rattle.converter.specs.declared.messages.Mode.{Mode}
use Rattle.converter.specs.Codes.{listed, messages, said}
use Rattle.converter.specs.declared.complaint.Complaint.{Complaint}
use Rattle.converter.specs.declared.complaint.Complaint.TheVariants.{Every}
use Rattle.converter.specs.Message.{message_code}
use Rattle.converter.specs.Messages.{message}

-- the first message of the faults s, at the fault after which u are left
abbrev pub Finds : Mode → List EscapeError → Option Message → List EscapeError → Type 0
Finds m s r u = MatchOption r ((messages m s ≡ []) × (messages m u ≡ [])) (λ x. messages m s ≡ message_code x ∷ messages m u)

module _ {F : Type 0} (g : Mut F (EscapeError × Unit {0}) (Option Message)) (m : Mode) where
  -- a call gives the message of its fault, and leaves the closure as it was
  abbrev Gives : F → Type 0
  Gives f = (x : EscapeError) (o : Option Message) (q : F) → Called g f (x, tt) o q → (q ≡ f) × (listed o ≡ message m x)

  passed : (s : List EscapeError) (f f' : F) (t xs : List EscapeError) → Gives f
      → Yields (YieldsFirst (λ es. es)) s xs t → FoldsTo (λ p x q. Called g p (x, tt) None q) f xs f' → (messages m s ≡ messages m t) × (f' ≡ f)
  passed s f f' t [] calls y h = (ap (messages m) y, sym h)
  passed s f f' t (x ∷ xs) calls (s', first, y) (f'', call, h) =
      let one = calls x None f'' call in
      let rest = passed s' f'' f' t xs (subst Gives (sym one.0) calls) y h in
      (ap (messages m) first ∙ ap (λ cs. cs ++ messages m s') (sym one.1) ∙ rest.0, rest.1 ∙ one.0)

  -- faults that have no message
  quiet : (s t xs : List EscapeError) → ((k : ℕ) → IfSome (slice_get xs k) (λ x. message m x ≡ [])) → Yields (YieldsFirst (λ es. es)) s xs t → messages m s ≡ messages m t
  quiet s t [] none y = ap (messages m) y
  quiet s t (x ∷ xs) none (s', first, y) = ap (messages m) first ∙ ap (λ cs. cs ++ messages m s') (none zero) ∙ quiet s' t xs (λ k. none (suc k)) y

  all_quiet : (s : List EscapeError) (f : F) (p : Run (YieldsFirst (λ es. es))) → Gives f → p.from ≡ s → p.whole ≡ true → AllItemsGive p g f None → messages m s ≡ []
  unfolding YieldsRun
  all_quiet s f p calls from whole all =
      let t = p.gave.0.0 in
      let none : (k : ℕ) → IfSome (slice_get p.items k) (λ x. message m x ≡ []) =
      λ k. IfSome_then (slice_get p.items k) (subst (λ o. IfSome o (λ x. Called g f (x, tt) None f)) (p.gave.1 k) (all (λ a r f' call. (calls a.0 r f' call).0) k)) (λ x call. sym (calls x None f call).1) in
      ap (messages m) (sym from) ∙ quiet p.from t p.items none p.gave.0.1 ∙ ap (messages m) (p.gave.0.2 whole).1.0

  no_message : (s : List EscapeError) (f : F) (r : Option Message) → Gives f
      → SomeRun (YieldsFirst (λ es. es)) s (λ p. MatchOption r (IsTrue p.whole × AllItemsGive p g f None) (λ y. (i : ℕ) × (i < p.len) × (p.len ≡ i + 1) × IsFirstToGive p g f (Some y) None i))
      → r ≡ None → messages m s ≡ []
  no_message s f None calls (p, from, (whole, all)) is = all_quiet s f p calls from whole all
  no_message s f (Some a) calls run is = cc

  pub found : (s : List EscapeError) (f : F) (r : Option Message) (u : List EscapeError) → Gives f → FindsMapped (YieldsFirst (λ es. es)) g s f r u
      → SomeRun (YieldsFirst (λ es. es)) s (λ p. MatchOption r (IsTrue p.whole × AllItemsGive p g f None) (λ y. (i : ℕ) × (i < p.len) × (p.len ≡ i + 1) × IsFirstToGive p g f (Some y) None i))
      → Finds m s r u
  found s f r u calls (xs, None, f', (t, y, step), folds, end) runs =
      let before = (passed s f f' t xs calls y folds).0 in
      subst (λ o. Finds m s o u) (sym end) (before ∙ ap (messages m) step.0, ap (messages m) step.1)
  found s f None u calls (xs, Some x, f', (t, y, step), folds, (q, call)) runs =
      let before = passed s f f' t xs calls y folds in
      let none = no_message s f None calls runs refl in
      let said = (calls x None q (subst (λ h. Called g h (x, tt) None q) before.1 call)).1 in
      (none, ap (λ cs. cs ++ messages m u) said ∙ sym (ap (messages m) step) ∙ sym before.0 ∙ none)
  found s f (Some a) u calls (xs, Some x, f', (t, y, step), folds, (q, call)) runs =
      let before = passed s f f' t xs calls y folds in
      let said = (calls x (Some a) q (subst (λ h. Called g h (x, tt) (Some a) q) before.1 call)).1 in
      before.0 ∙ ap (messages m) step ∙ ap (λ cs. cs ++ messages m u) (sym said)

-- as the code has it
pub told : (m : Mode) (c : Complaint) (s : List EscapeError) (r : Option Message) (u : List EscapeError) (now : List ℕ)
    → said s c ≡ now → c ≡ Every m → Finds m s r u → YieldsFirstBy message_code (λ codes. codes) now r (said u c)
told m c s None u now view is h = (sym view ∙ ap (said s) is ∙ h.0, ap (said u) is ∙ h.1)
told m c s (Some x) u now view is h = sym view ∙ ap (said s) is ∙ h ∙ ap (λ k. message_code x ∷ said u k) (sym is)

pub nearer : (now : List ℕ) (r : Option Message) (left : List ℕ) → YieldsFirstBy message_code (λ codes. codes) now r left → MakesProgress (λ _. Unit {0}) (item_count (λ codes. codes)) now r left
nearer now None left h = record { on = λ _. tt; keeps = tt; rests = λ _. tt }
nearer now (Some x) left h = record { on = λ _. (tt, tt, omega (arith, ap length h)); keeps = tt; rests = λ _. tt }
