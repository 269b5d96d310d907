-- The answer to a line.
use Rattle.std.specs.Prelude.{ℕ, ◌+◌, min, Bool, cond, ◌&&◌, List, length, take, drop, Some, None, Ok, Err, Option, Result, ◌==◌, nat_le, slice_index}
use Rattle.syntax_kind.specs.Keywords.{keyword_answer, contextual_answer}
use Rattle.syntax_kind.specs.Trivia.{trivia_answer}
use Rattle.syntax_kind.specs.declared.Refusal.{Refusal}
use Rattle.frontmatter.specs.Parsing.{parsing}
use Rattle.answers.specs.declared.answer.Answer.{Answer}
use Rattle.answers.specs.declared.answer.Answer.TheVariants.{Frontmatter, Keywords as KeywordsA, Trivia, Malformed}
use Rattle.answers.specs.declared.answer.Keywords.{Keywords}
use Rattle.questions.specs.Hex.{hex_bytes}
use Rattle.answers.specs.Numbers.{number}
use Rattle.questions.specs.Places.{place_of}

-- an edition past 255 is as unknown as 255
abbrev pub edition : ℕ → ℕ
edition n = min n 255

abbrev pub both : Result (Option ℕ) Refusal → Result (Option ℕ) Refusal → Result Keywords Refusal
both (Err e) c = Err e
both (Ok s) (Err e) = Err e
both (Ok s) (Ok c) = Ok (record { strict = s; contextual = c })

abbrev pub keywords : List ℕ → ℕ → Result Keywords Refusal
keywords ident e = both (keyword_answer ident e) (contextual_answer ident e)

abbrev pub of_bytes : Option (List ℕ) → Answer
of_bytes None = Malformed
of_bytes (Some bs) = Frontmatter (parsing bs)

abbrev pub frontmatter_line : List ℕ → Answer
frontmatter_line hex = of_bytes (hex_bytes hex)

abbrev pub identifier_answer : Option ℕ → Option (List ℕ) → Answer
identifier_answer None ident = Malformed
identifier_answer (Some e) None = Malformed
identifier_answer (Some e) (Some ident) = KeywordsA (keywords ident (edition e))

-- the edition stands before the first space, 32, and the identifier after it
abbrev pub keyword_line : List ℕ → Answer
keyword_line text =
    cond (place_of 32 text == length text) Malformed (identifier_answer (number (take (place_of 32 text) text)) (hex_bytes (drop (place_of 32 text + 1) text)))

abbrev pub of_kind : Option ℕ → Answer
of_kind None = Malformed
of_kind (Some kind) = Trivia (trivia_answer kind)

abbrev pub trivia_line : List ℕ → Answer
trivia_line text = of_kind (number text)

-- by the letter: 'F' is 70, 'K' is 75, 'T' is 84
abbrev pub asked : ℕ → List ℕ → Answer
asked letter rest = cond (letter == 70) (frontmatter_line rest) (cond (letter == 75) (keyword_line rest) (cond (letter == 84) (trivia_line rest) Malformed))

-- a question is a letter, a space, and what it is about
abbrev pub is_question : List ℕ → Bool
is_question line = nat_le 2 (length line) && slice_index line 1 == 32

abbrev pub answer_to : List ℕ → Answer
answer_to line = cond (is_question line) (asked (slice_index line 0) (drop 2 line)) Malformed
