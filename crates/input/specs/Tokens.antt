-- What an input says of the tokens of a script: bs are its bytes, ks and ss the kinds and the starts of its tokens.
use Rattle.std.specs.Prelude.{ℕ, ◌+◌, ◌-◌, Bool, cond, not, ◌&&◌, List, length, Some, None, Ok, Err, filter, ◌==◌, nat_lt, slice_index}
use Rattle.std.specs.List.{range_with_len}
use Rattle.syntax_kind.specs.Trivia.{trivial}
use Rattle.syntax_kind.specs.Keywords.{Answer, contextual_answer}
use Rattle.lexed_str.specs.Columns.{tokens, kind_at}
use Rattle.lexed_str.specs.Reading.{texts}
use Rattle.input.specs.Kinds.{eof, float_number, ident}

-- token i is no trivia
abbrev pub solid : List ℕ → ℕ → Bool
solid ks i = not (trivial (kind_at ks i))

-- the numbers of those of the first n tokens that are no trivia, in order
abbrev pub kept : List ℕ → ℕ → List ℕ
kept ks n = filter (solid ks) (range_with_len 0 n)

-- the kind of the keyword that an identifier is; an identifier where it is none
abbrev pub keyword_or : Answer → ℕ
keyword_or (Ok (Some kind)) = kind
keyword_or (Ok None) = ident
keyword_or (Err why) = ident

-- the contextual kind of token i: the end's where it is no identifier
abbrev pub contextual_at : List ℕ → List ℕ → List ℕ → ℕ → ℕ → ℕ
contextual_at bs ks ss edition i = cond (kind_at ks i == ident) (keyword_or (contextual_answer (texts bs ss i (i + 1)) edition)) eof

-- the last byte of the text is a dot (46)
abbrev pub ends_in_dot : List ℕ → Bool
ends_in_dot text = slice_index text (length text - 1) == 46

-- there is a token i, and it is neither trivia nor an identifier
abbrev pub adjoins : List ℕ → ℕ → Bool
adjoins ks i = nat_lt i (tokens ks) && (solid ks i && not (kind_at ks i == ident))

-- the mark of token i: a fractional number has it where its text does not end in a dot
abbrev pub joint_at : List ℕ → List ℕ → List ℕ → ℕ → Bool
joint_at bs ks ss i =
    cond (kind_at ks i == float_number) (not (ends_in_dot (texts bs ss i (i + 1)))) (not (kind_at ks i == ident) && adjoins ks (i + 1))
