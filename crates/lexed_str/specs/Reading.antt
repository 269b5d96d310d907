-- What the columns answer, token by token.
use Rattle.std.specs.Prelude.{ℕ, ◌+◌, ◌-◌, cond, ◌&&◌, List, [], ◌∷◌, Some, None, Ok, Err, Option, Result, ◌==◌, nat_le, nat_lt}
use Rattle.std.specs.List.{between}
use Rattle.std.specs.declared.ops.Range.{Range}
use Rattle.lexed_str.specs.declared.error.LexError.{LexError}
use Rattle.lexed_str.specs.declared.refusal.Refusal.{Refusal}
use Rattle.lexed_str.specs.declared.refusal.Refusal.TheVariants.{NoToken}
use Rattle.lexed_str.specs.Columns.{tokens, kind_at, start_at}

-- an answer about token i; refused where there is no such token
abbrev pub of_token : {A : Type 0} → List ℕ → ℕ → A → Result A Refusal
of_token ks i answer = cond (nat_lt i (tokens ks)) (Ok answer) (Err NoToken)

-- the kind of a token
abbrev pub kind_answer : List ℕ → ℕ → Result ℕ Refusal
kind_answer ks i = of_token ks i (kind_at ks i)

-- the text of the tokens from one entry up to another
abbrev pub texts : List ℕ → List ℕ → ℕ → ℕ → List ℕ
texts bs ss from to = between (start_at ss from) (start_at ss to) bs

-- the text of a token
abbrev pub text_answer : List ℕ → List ℕ → List ℕ → ℕ → Result (List ℕ) Refusal
text_answer bs ks ss i = of_token ks i (texts bs ss i (i + 1))

-- the text of some tokens in a row
abbrev pub range_answer : List ℕ → List ℕ → List ℕ → ℕ → ℕ → Result (List ℕ) Refusal
range_answer bs ks ss from to = cond (nat_lt from to && nat_le to (tokens ks)) (Ok (texts bs ss from to)) (Err NoToken)

-- where the text of a token lies
abbrev pub places_answer : List ℕ → List ℕ → ℕ → Result (Range ℕ) Refusal
places_answer ks ss i = of_token ks i (record { start = start_at ss i; end = start_at ss (i + 1) })

-- where the text of an entry starts, the end's entry too
abbrev pub start_answer : List ℕ → List ℕ → ℕ → Result ℕ Refusal
start_answer ks ss i = cond (nat_le i (tokens ks)) (Ok (start_at ss i)) (Err NoToken)

-- the length of the text of a token
abbrev pub len_answer : List ℕ → List ℕ → ℕ → Result ℕ Refusal
len_answer ks ss i = of_token ks i (start_at ss (i + 1) - start_at ss i)

-- the codes of the errors of token i, in order
abbrev pub errors_of : ℕ → List LexError → List ℕ
errors_of i [] = []
errors_of i (e ∷ es) = cond (e.token == i) (e.code ∷ errors_of i es) (errors_of i es)

-- the first of a list, if it has one
abbrev pub first_of : List ℕ → Option ℕ
first_of [] = None
first_of (c ∷ cs) = Some c

-- the first error of a token, if it has one
abbrev pub error_answer : List ℕ → List LexError → ℕ → Result (Option ℕ) Refusal
error_answer ks es i = of_token ks i (first_of (errors_of i es))
