-- The answers to all lines.
use Rattle.std.specs.Prelude.{ℕ, zero, suc, ◌+◌, List, [], ◌∷◌, ◌++◌, length, take, drop}
use Rattle.answers.specs.Asked.{answer_to}
use Rattle.questions.specs.Places.{place_of}
use Rattle.answers.specs.Texts.{answer_text}

-- the line of the answer, which a line feed (10) ends
abbrev pub line_answer : List ℕ → List ℕ
line_answer line = answer_text (answer_to line) ++ 10 ∷ []

-- the answers to at most k lines
abbrev pub answers_to : ℕ → List ℕ → List ℕ
answers_to zero bs = []
answers_to (suc k) [] = []
answers_to (suc k) (b ∷ bs) = line_answer (take (place_of 10 (b ∷ bs)) (b ∷ bs)) ++ answers_to k (drop (place_of 10 (b ∷ bs) + 1) (b ∷ bs))

-- there are no more lines than bytes
abbrev pub transcript : List ℕ → List ℕ
transcript bs = answers_to (length bs) bs
