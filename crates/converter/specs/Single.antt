-- A script that is one token.
use Rattle.std.specs.Prelude.{◌≡◌, ℕ, ◌<◌, Bool, cond, ◌&&◌, List, [], ◌∷◌, map, length, Some, None, Ok, Err, Option, Result, ◌==◌, nat_lt}
use Rattle.lexed_str.specs.declared.error.LexError.{LexError}
use Rattle.converter.specs.declared.refusal.Refusal.{Refusal}
use Rattle.converter.specs.declared.refusal.Refusal.TheVariants.{Edition}
use Rattle.converter.specs.Lexing.{nothing, cut_at, kind_at, codes_at, extend}
use Rattle.converter.specs.Meaning.{Meaning}

-- the last of the list, or else what came before it
abbrev pub last_from : Option ℕ → List ℕ → Option ℕ
last_from before [] = before
last_from before (x ∷ xs) = last_from (Some x) xs

abbrev pub last_of : List ℕ → Option ℕ
last_of xs = last_from None xs

-- the raw token at the script's start is the whole script, and the edition cuts nothing off
abbrev pub whole : Meaning → ℕ → Bool
whole m edition = nat_lt 0 (length m.script) && ((m.token 0).len == length m.script && (cut_at m edition 0).len == length m.script)

-- its kind and the last code, if any
abbrev pub single : Meaning → ℕ → Option (ℕ × Option ℕ)
single m edition = cond (whole m edition) (Some (kind_at m edition 0, last_of (codes_at m edition [] [] 0 0))) None

abbrev pub single_answer : Meaning → ℕ → Result (Option (ℕ × Option ℕ)) Refusal
single_answer m edition = cond (nat_lt 3 edition) (Err Edition) (Ok (single m edition))

-- lexing from the script's start would give one token, uncut, up to the end
pub record Alone (m : Meaning) (edition : ℕ) : Type 0 where
  pub some : 0 < length m.script
  pub all : (extend m edition nothing).place ≡ length m.script
  pub uncut : (cut_at m edition 0).len ≡ (m.token 0).len

-- what an answer says: that token's kind and the last of its errors, or that there is no such token
abbrev pub Single : Meaning → ℕ → Option (ℕ × Option ℕ) → Type 0
Single m edition (Some (kind, code)) = Alone m edition × ((extend m edition nothing).kinds ≡ kind ∷ []) × (code ≡ last_of (map (λ (e : LexError). e.code) (extend m edition nothing).errors))
Single m edition None = Alone m edition → ⊥
