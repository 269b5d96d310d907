-- What an input takes from a token by itself: from its kind, its text and the kind of the token behind it.
use Rattle.std.specs.Prelude.{◌≡◌, ℕ, ◌+◌, Bool, false, cond, not, ◌&&◌, List, Some, None, Option, ◌==◌, nat_lt}
use Rattle.syntax_kind.specs.Trivia.{trivial}
use Rattle.syntax_kind.specs.Editions.{edition_number}
use Rattle.syntax_kind.specs.Keywords.{contextual_answer}
use Rattle.syntax_kind.specs.declared.editions.Edition.{Edition}
use Rattle.lexed_str.specs.Columns.{tokens, kind_at}
use Rattle.lexed_str.specs.Reading.{texts}
use Rattle.input.specs.declared.token.Token.{Token}
use Rattle.input.specs.Kinds.{eof, float_number, ident}
use Rattle.input.specs.Tokens.{keyword_or, ends_in_dot}

-- the kind of the token behind token i, if there is one
abbrev pub kind_after : List ℕ → ℕ → Option ℕ
kind_after ks i = cond (nat_lt (i + 1) (tokens ks)) (Some (kind_at ks (i + 1))) None

-- what is read is token i
pub record Sees (bs ks ss : List ℕ) (i : ℕ) (t : Token) : Type 0 where
  pub kind : t.kind ≡ kind_at ks i
  pub text : t.text.now ≡ texts bs ss i (i + 1)
  pub next : t.next ≡ kind_after ks i

-- the token's contextual kind: the end's where it is no identifier
abbrev pub contextual_of : Token → Edition → ℕ
contextual_of t edition = cond (t.kind == ident) (keyword_or (contextual_answer t.text.now (edition_number edition))) eof

-- a token of this kind behind parts nothing: there is one, and it is neither trivia nor an identifier
abbrev pub adjoined : Option ℕ → Bool
adjoined None = false
adjoined (Some kind) = not (trivial kind) && not (kind == ident)

-- the token's mark: a fractional number has it where its text does not end in a dot
abbrev pub joint_of : Token → Bool
joint_of t = cond (t.kind == float_number) (not (ends_in_dot t.text.now)) (not (t.kind == ident) && adjoined t.next)
