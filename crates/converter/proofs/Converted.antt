-- What the columns hold when lexing has come to the end.
use Rattle.std.proofs.Common.{◌≡◌, ℕ, ◌+◌, ◌-◌, ◌<◌, ◌≤◌, [], ◌∷◌, ◌++◌, List, length, take, set, Some, None, Ok, Option, Result, sym, ap, ◌∙◌, subst, arith}
use Rattle.std.proofs.lemmas.Bool.Decides.{nat_tests}
use Rattle.syntax_kind.specs.declared.editions.Edition.{Edition}
use Rattle.syntax_kind.specs.declared.editions.Edition.TheVariants.{Edition2015, Edition2018, Edition2021, Edition2024}
use Rattle.syntax_kind.specs.Editions.{edition_number}
use Rattle.lexed_str.specs.declared.error.LexError.{LexError}
use Rattle.converter.specs.declared.lexing.Counts.{Counts}
use Rattle.converter.specs.declared.progress.Progress.{Progress}
use Rattle.converter.specs.declared.refusal.Refusal.{Refusal}
use Rattle.converter.specs.Columns.{over, held, Reached, Room, Kept}
use Rattle.converter.specs.Lexes.{Lexes, Only}
use Rattle.converter.specs.Lexing.{Lexed, lexed, head_of, extend_all}
use Rattle.converter.specs.Meaning.{Meaning}
use Rattle.converter.specs.Names.{EOF}
use Rattle.converter.specs.Outcome.{outcome, written, kinds_of, starts_of}
use Rattle.converter.specs.Refusals.{refusal}
use Rattle.converter.proofs.Ends.{Lawful, lexes}
use Rattle.converter.proofs.Finishing.{over_front, over_last, all_held}
use Rattle.converter.proofs.Fronts.{fronts, carry}
use Rattle.converter.proofs.Running.{kept_on}
use Rattle.converter.proofs.Unique.{lexes_only}

pub record Converted (m : Meaning) (edition : ℕ) (ks ss : List ℕ) (es : List LexError) (c : Counts) (ks' ss' : List ℕ) (es' : List LexError) : Type 0 where
  pub tokens : c.tokens ≡ length (lexed m edition).kinds
  pub errors_count : c.errors ≡ length (lexed m edition).errors
  pub kinds : ks' ≡ over (kinds_of (lexed m edition)) ks
  pub starts : ss' ≡ over (starts_of (lexed m edition)) ss
  pub errors : es' ≡ over (lexed m edition).errors es

-- from the columns before, by those with the head, to those with all tokens, the end's entry and the counts
pub converted : (m : Meaning) (edition : ℕ) (ks ss ks₁ ss₁ ks₂ ss₂ ks' ss' : List ℕ) (es es₁ es₂ es' : List LexError) (p q : Progress) (c : Counts)
    → Room (length m.script) ks₁ ss₁ es₁ → Room (length m.script) ks₂ ss₂ es₂ → Reached m.script p → Reached m.script q
    → held ks₁ ss₁ es₁ p ≡ head_of m → Kept ks ss ks₁ ss₁ es es₁ p
    → held ks₂ ss₂ es₂ q ≡ extend_all m edition (length m.script - p.tokens) (held ks₁ ss₁ es₁ p) → Kept ks₁ ss₁ ks₂ ss₂ es₁ es₂ q
    → (p.tokens ≤ q.tokens) × (p.errors ≤ q.errors)
    → (c.tokens ≡ q.tokens) × (c.errors ≡ q.errors) → ks' ≡ set ks₂ q.tokens EOF → ss' ≡ set ss₂ q.tokens q.place → es' ≡ es₂
    → Converted m edition ks ss es c ks' ss' es'
converted m edition ks ss ks₁ ss₁ ks₂ ss₂ ks' ss' es es₁ es₂ es' p q c r₁ r₂ at₁ at₂ first kept₁ second kept₂ more count k s e =
    let l = lexed m edition in
    let is = all_held m edition ks₁ ss₁ ks₂ ss₂ es₁ es₂ p q (omega (arith, at₁.tokens_few, at₁.within, r₁.kinds)) first second in
    let rest = kept_on ks ss ks₁ ss₁ ks₂ ss₂ es es₁ es₂ p q more.0 more.1 kept₁ kept₂ in
    let errors = over_front l.errors es₂ es q.errors (omega (arith, at₂.errors_few, at₂.within, r₂.errors)) (ap (λ (x : Lexed). x.errors) is) rest.errors in
    let few : q.tokens < length ks₂ = omega (arith, at₂.tokens_few, at₂.within, r₂.kinds) in
    let few' : q.tokens < length ss₂ = omega (arith, at₂.tokens_few, at₂.within, r₂.starts) in
    let front = over_front l.kinds ks₂ ks q.tokens (omega arith) (ap (λ (x : Lexed). x.kinds) is) rest.kinds in
    record {
      tokens = count.0 ∙ front.1;
      errors_count = count.1 ∙ errors.1;
      kinds = k ∙ over_last l.kinds ks₂ ks q.tokens EOF few (ap (λ (x : Lexed). x.kinds) is) rest.kinds;
      starts = s ∙ over_last l.starts ss₂ ss q.tokens q.place few' (ap (λ (x : Lexed). x.starts) is) rest.starts ∙ ap (λ z. over (l.starts ++ z ∷ []) ss) (ap (λ (x : Lexed). x.place) is);
      errors = e ∙ errors.0;
    }

-- the law of lexing
pub law : (m : Meaning) (edition : ℕ) (w : Lawful m) (ks ss ks' ss' : List ℕ) (es es' : List LexError) (c : Counts) → Converted m edition ks ss es c ks' ss' es'
    → Lexes m edition c.tokens (take (c.tokens + 1) ks') (take (c.tokens + 1) ss') (take c.errors es')
law m edition w ks ss ks' ss' es es' c x =
    carry m edition c ks' ss' es' (fronts m edition w c ks ss ks' ss' es es' x.tokens x.errors_count x.kinds x.starts x.errors) (Lexes m edition) (lexes m edition w)

pub only : (m : Meaning) (edition : ℕ) (ks ss : List ℕ) (es : List LexError) (c : Counts) → Lexes m edition c.tokens (take (c.tokens + 1) ks) (take (c.tokens + 1) ss) (take c.errors es) → Only m edition (Ok c) ks ss es
only m edition ks ss es c x n ks' ss' es' y = lexes_only m edition n c.tokens ks' ss' (take (c.tokens + 1) ks) (take (c.tokens + 1) ss) es' (take c.errors es) y x

pub known_edition : (e : Edition) (edition : ℕ) → edition_number e ≡ edition → edition ≤ 3
known_edition Edition2015 edition is = omega arith
known_edition Edition2018 edition is = omega arith
known_edition Edition2021 edition is = omega arith
known_edition Edition2024 edition is = omega arith

pub none_refused : (edition len k s e : ℕ) → edition ≤ 3 → len < k → len < s → len ≤ e → refusal edition len k s e ≡ None
none_refused edition len k s e a b d f = grind (arith, nat_tests)

same_counts : (a b x y : ℕ) → a ≡ b → x ≡ y → ◌≡◌ {A = Counts} (record { tokens = a; errors = x }) (record { tokens = b; errors = y })
same_counts a b x y e f = cc

pub answered : (r : Option Refusal) (l : Lexed) (c : Counts) → r ≡ None → c.tokens ≡ length l.kinds → c.errors ≡ length l.errors → ◌≡◌ {A = Result Counts Refusal} (Ok c) (outcome r l)
answered None l c none t e = ap Ok (same_counts c.tokens (length l.kinds) c.errors (length l.errors) t e)
answered (Some why) l c none t e = cc

pub written_at : {A : Type 0} (r : Option Refusal) (xs before now now' : List A) → r ≡ None → now' ≡ now → now ≡ over xs before → now' ≡ written r xs before
written_at None xs before now now' none same is = same ∙ is
written_at (Some why) xs before now now' none same is = cc

-- what holds of the columns as they are known holds of them as they are called
pub at_end : (P : List ℕ → List ℕ → List LexError → Type 0) (ks ks' ss ss' : List ℕ) (es es' : List LexError) → ks' ≡ ks → ss' ≡ ss → es' ≡ es → P ks ss es → P ks' ss' es'
at_end P ks ks' ss ss' es es' a b c h = subst (λ x. P x ss' es') (sym a) (subst (λ x. P ks x es') (sym b) (subst (P ks ss) (sym c) h))
