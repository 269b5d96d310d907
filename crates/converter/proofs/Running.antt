-- The loop over the script, turn by turn.
use Rattle.std.proofs.Common.{◌≡◌, ℕ, zero, suc, ◌+◌, ◌-◌, ◌<◌, ◌≤◌, cond, List, length, drop, sym, refl, ap, ◌∙◌, arith, le-ltb, lt-ltb}
use Rattle.std.proofs.lemmas.List.{drop-drop}
use Rattle.lexed_str.specs.declared.error.LexError.{LexError}
use Rattle.converter.specs.declared.progress.Progress.{Progress}
use Rattle.converter.specs.Columns.{held, Reached, Kept}
use Rattle.converter.specs.Lexing.{Lexed, extend, extend_all}
use Rattle.converter.specs.Meaning.{Meaning}

-- what the loop keeps
pub record Sofar (m : Meaning) (edition : ℕ) (ks ss : List ℕ) (es : List LexError) (from : Progress) (ks' ss' : List ℕ) (es' : List LexError) (now : Progress) : Type 0 where
  pub reached : Reached m.script now
  pub left : extend_all m edition (length m.script - now.tokens) (held ks' ss' es' now) ≡ extend_all m edition (length m.script - from.tokens) (held ks ss es from)
  pub kept : Kept ks ss ks' ss' es es' now
  pub more : (from.tokens ≤ now.tokens) × (from.errors ≤ now.errors)

all_more : (m : Meaning) (edition n : ℕ) (l : Lexed) → n < length m.script → l.place < length m.script
    → extend_all m edition (length m.script - n) l ≡ extend_all m edition (length m.script - (n + 1)) (extend m edition l)
all_more m edition n l few there =
    let e : length m.script - n ≡ suc (length m.script - (n + 1)) = omega arith in
    ap (λ k. extend_all m edition k l) e ∙ ap (λ b. cond b (extend_all m edition (length m.script - (n + 1)) (extend m edition l)) l) (lt-ltb l.place (length m.script) there)

all_done : (m : Meaning) (edition k : ℕ) (l : Lexed) → length m.script ≤ l.place → extend_all m edition k l ≡ l
all_done m edition zero l there = refl
all_done m edition (suc k) l there = ap (λ b. cond b (extend_all m edition k (extend m edition l)) l) (le-ltb l.place (length m.script) there)

drop_on : {X : Type 0} (a b : List X) (n k : ℕ) → n ≤ k → drop n a ≡ drop n b → drop k a ≡ drop k b
drop_on a b n k l e =
    let j : n + (k - n) ≡ k = omega arith in
    ap (λ i. drop i a) (sym j) ∙ sym (drop-drop (k - n) n a) ∙ ap (drop (k - n)) e ∙ drop-drop (k - n) n b ∙ ap (λ i. drop i b) j

pub kept_on : (ks ss ks' ss' ks'' ss'' : List ℕ) (es es' es'' : List LexError) (p q : Progress) → p.tokens ≤ q.tokens → p.errors ≤ q.errors → Kept ks ss ks' ss' es es' p → Kept ks' ss' ks'' ss'' es' es'' q → Kept ks ss ks'' ss'' es es'' q
kept_on ks ss ks' ss' ks'' ss'' es es' es'' p q lt le a b = record {
  kinds = b.kinds ∙ drop_on ks' ks p.tokens q.tokens lt a.kinds;
  starts = b.starts ∙ drop_on ss' ss p.tokens q.tokens lt a.starts;
  errors = b.errors ∙ drop_on es' es p.errors q.errors le a.errors;
}

pub turn : (m : Meaning) (edition : ℕ) (ks ss : List ℕ) (es : List LexError) (from : Progress) (ks' ss' : List ℕ) (es' : List LexError) (p : Progress) (ks'' ss'' : List ℕ) (es'' : List LexError) (q : Progress)
    → Sofar m edition ks ss es from ks' ss' es' p → p.place < length m.script
    → Reached m.script q → held ks'' ss'' es'' q ≡ extend m edition (held ks' ss' es' p) → Kept ks' ss' ks'' ss'' es' es'' q
    → q.tokens ≡ p.tokens + 1 → p.errors ≤ q.errors
    → Sofar m edition ks ss es from ks'' ss'' es'' q
turn m edition ks ss es from ks' ss' es' p ks'' ss'' es'' q h there r is k one more =
    record {
      reached = r;
      left =
          ap (λ n. extend_all m edition (length m.script - n) (held ks'' ss'' es'' q)) one
          ∙ ap (extend_all m edition (length m.script - (p.tokens + 1))) is
          ∙ sym (all_more m edition p.tokens (held ks' ss' es' p) (omega (arith, h.reached.tokens_few)) there)
          ∙ h.left;
      kept = kept_on ks ss ks' ss' ks'' ss'' es es' es'' p q (omega arith) more h.kept k;
      more = (omega (arith, h.more.0), omega (arith, h.more.1));
    }

pub done : (m : Meaning) (edition : ℕ) (ks ss : List ℕ) (es : List LexError) (from : Progress) (ks' ss' : List ℕ) (es' : List LexError) (p : Progress)
    → Sofar m edition ks ss es from ks' ss' es' p → length m.script ≤ p.place
    → held ks' ss' es' p ≡ extend_all m edition (length m.script - from.tokens) (held ks ss es from)
done m edition ks ss es from ks' ss' es' p h there = sym (all_done m edition (length m.script - p.tokens) (held ks' ss' es' p) there) ∙ h.left
