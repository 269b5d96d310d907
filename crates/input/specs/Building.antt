-- The input of a script's tokens, written into columns.
use Rattle.std.specs.Prelude.{◌≡◌, ℕ, Bool, cond, ◌&&◌, List, ◌++◌, map, length, drop, Some, None, Option, nat_le}
use Rattle.lexed_str.specs.Columns.{tokens, kind_at}
use Rattle.input.specs.declared.refusal.Refusal.{Refusal}
use Rattle.input.specs.declared.refusal.Refusal.TheVariants.{Edition, Full}
use Rattle.input.specs.Marks.{marks, words}
use Rattle.input.specs.Columns.{Columns}
use Rattle.input.specs.Tokens.{kept, contextual_at, joint_at}

-- each column has room for an entry for each of n tokens
abbrev pub spacious : ℕ → Columns → Bool
spacious n c =
    nat_le n (length c.kinds)
    && (nat_le n (length c.contextual) && (nat_le n (length c.editions) && nat_le (words n) (length c.joint)))

-- why no input is made of n tokens
abbrev pub tokens_refusal : ℕ → ℕ → Columns → Option Refusal
tokens_refusal n edition c = cond (nat_le edition 3) (cond (spacious n c) None (Some Full)) (Some Edition)

-- the column ys with xs written over its front
abbrev pub over : List ℕ → List ℕ → List ℕ
over xs ys = xs ++ drop (length xs) ys

-- the columns, with an entry for each token that is no trivia; where no entry came, and past the last word, they are as before
pub record Built (bs ks ss : List ℕ) (edition : ℕ) (old new : Columns) : Type 0 where
  pub len : new.len ≡ length (kept ks (tokens ks))
  pub kinds : new.kinds ≡ over (map (kind_at ks) (kept ks (tokens ks))) old.kinds
  pub contextual : new.contextual ≡ over (map (contextual_at bs ks ss edition) (kept ks (tokens ks))) old.contextual
  pub editions : new.editions ≡ over (map (λ _. edition) (kept ks (tokens ks))) old.editions
  pub marks : marks new.joint new.len ≡ map (joint_at bs ks ss) (kept ks (tokens ks))
  pub rest : drop (words new.len) new.joint ≡ drop (words new.len) old.joint
