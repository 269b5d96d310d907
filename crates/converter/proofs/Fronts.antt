-- The fronts of the columns that lexing wrote keep its law, and no others do.
use Rattle.std.proofs.Common.{◌≡◌, ℕ, ◌+◌, List, length, take, drop, sym, ap, ◌∙◌, subst, arith}
use Rattle.std.proofs.lemmas.List.{take_at}
use Rattle.lexed_str.specs.declared.error.LexError.{LexError}
use Rattle.converter.specs.declared.lexing.Counts.{Counts}
use Rattle.converter.specs.Columns.{over}
use Rattle.converter.specs.Lexing.{lexed}
use Rattle.converter.specs.Meaning.{Meaning}
use Rattle.converter.specs.Outcome.{kinds_of, starts_of}
use Rattle.converter.proofs.Ends.{Lawful, lexes}

front : {X : Type 0} (xs now before : List X) (n : ℕ) → now ≡ over xs before → n ≡ length xs → xs ≡ take n now
front xs now before n e long = sym (ap (take n) e ∙ take_at xs (drop (length xs) before) n (sym long))

-- the fronts are what the definition gives
pub record Fronts (m : Meaning) (edition : ℕ) (c : Counts) (ks ss : List ℕ) (es : List LexError) : Type 0 where
  pub count : length (lexed m edition).kinds ≡ c.tokens
  pub kinds : kinds_of (lexed m edition) ≡ take (c.tokens + 1) ks
  pub starts : starts_of (lexed m edition) ≡ take (c.tokens + 1) ss
  pub errors : (lexed m edition).errors ≡ take c.errors es

pub fronts : (m : Meaning) (edition : ℕ) (w : Lawful m) (c : Counts) (ks ss ks' ss' : List ℕ) (es es' : List LexError)
    → c.tokens ≡ length (lexed m edition).kinds → c.errors ≡ length (lexed m edition).errors
    → ks' ≡ over (kinds_of (lexed m edition)) ks → ss' ≡ over (starts_of (lexed m edition)) ss → es' ≡ over (lexed m edition).errors es
    → Fronts m edition c ks' ss' es'
fronts m edition w c ks ss ks' ss' es es' tokens errors k s e =
    let l = lexed m edition in
    let law = lexes m edition w in
    record {
      count = sym tokens;
      kinds = front (kinds_of l) ks' ks (c.tokens + 1) k (omega (arith, tokens, law.kinds_long));
      starts = front (starts_of l) ss' ss (c.tokens + 1) s (omega (arith, tokens, law.starts_long));
      errors = front l.errors es' es c.errors e errors;
    }

-- whatever holds of what the definition gives holds of the fronts
pub carry : (m : Meaning) (edition : ℕ) (c : Counts) (ks ss : List ℕ) (es : List LexError) → Fronts m edition c ks ss es
    → (P : ℕ → List ℕ → List ℕ → List LexError → Type 0) → P (length (lexed m edition).kinds) (kinds_of (lexed m edition)) (starts_of (lexed m edition)) (lexed m edition).errors
    → P c.tokens (take (c.tokens + 1) ks) (take (c.tokens + 1) ss) (take c.errors es)
carry m edition c ks ss es f P h =
    let l = lexed m edition in
    subst (λ n. P n (take (c.tokens + 1) ks) (take (c.tokens + 1) ss) (take c.errors es)) f.count
    (subst (λ x. P (length l.kinds) x (take (c.tokens + 1) ss) (take c.errors es)) f.kinds
    (subst (λ x. P (length l.kinds) (kinds_of l) x (take c.errors es)) f.starts
    (subst (λ x. P (length l.kinds) (kinds_of l) (starts_of l) x) f.errors h)))
