-- Classes of bytes, the runs of a class, and the kind of each mark.
use Rattle.std.specs.Prelude.{ℕ, ◌+◌, Bool, cond, ◌||◌, List, [], ◌∷◌, drop, ◌==◌}
use Rattle.std.specs.Int.{is_in_range}
use Rattle.std.specs.List.{prefix_len}
use Rattle.raw.specs.declared.kinds.RawKind.{RawKind}
use Rattle.raw.specs.declared.kinds.RawKind.TheVariants.{Semi, Comma, Dot, OpenParen, CloseParen, OpenBrace, CloseBrace, OpenBracket, CloseBracket, At, Pound, Tilde, Question, Colon, Dollar, Eq, Bang, Lt, Gt, Minus, And, Or, Plus, Star, Slash, Caret, Percent, Unknown}

-- an ASCII letter or `_`
abbrev pub letter : ℕ → Bool
letter b = (is_in_range 97 122 b || is_in_range 65 90 b) || b == 95

abbrev pub digit : ℕ → Bool
digit b = is_in_range 48 57 b

-- a byte of a word
abbrev pub word : ℕ → Bool
word b = letter b || digit b

-- where the bytes that stand from p on and pass the test end
abbrev pub run_to : (ℕ → Bool) → List ℕ → ℕ → ℕ
run_to test bs p = p + prefix_len test (drop p bs)

-- each mark by its code, with its kind
abbrev pub marks : List (ℕ × RawKind)
marks =
    (59, Semi) ∷ (44, Comma) ∷ (46, Dot) ∷ (40, OpenParen) ∷ (41, CloseParen) ∷ (123, OpenBrace)
    ∷ (125, CloseBrace) ∷ (91, OpenBracket) ∷ (93, CloseBracket) ∷ (64, At) ∷ (35, Pound) ∷ (126, Tilde)
    ∷ (63, Question) ∷ (58, Colon) ∷ (36, Dollar) ∷ (61, Eq) ∷ (33, Bang) ∷ (60, Lt)
    ∷ (62, Gt) ∷ (45, Minus) ∷ (38, And) ∷ (124, Or) ∷ (43, Plus) ∷ (42, Star)
    ∷ (47, Slash) ∷ (94, Caret) ∷ (37, Percent) ∷ []

-- the kind that a table gives the byte; unknown where it gives none
abbrev pub kind_in : List (ℕ × RawKind) → ℕ → RawKind
kind_in [] b = Unknown
kind_in (m ∷ ms) b = cond (b == m.0) m.1 (kind_in ms b)

abbrev pub mark_kind : ℕ → RawKind
mark_kind b = kind_in marks b
