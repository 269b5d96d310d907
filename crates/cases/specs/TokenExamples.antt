-- Worked examples on tokens, evaluated from the definitions that the contracts cite.
use Rattle.std.specs.Prelude.{◌≡◌, false, [], ◌∷◌, map, Some, None, Ok, codes}
use Rattle.raw.specs.declared.kinds.RawKind.TheVariants.{GuardedStrPrefix}
use Rattle.tape.specs.Meaning.{token_at as recorded}
use Rattle.scanner.specs.Tokens.{token_at as scanned}
use Rattle.converter.specs.Meaning.{Meaning, meaning}
use Rattle.converter.specs.Lexing.{Lexed, lexed}
use Rattle.converter.specs.Outcome.{kinds_of, starts_of}
use Rattle.converter.specs.Single.{single_answer}
use Rattle.input.specs.Tokens.{kept, joint_at}

-- a tape with one mark, of a guarded prefix, over `##`
abbrev pub hashes : Meaning
hashes =
    let marks = record { place = 0; kind = GuardedStrPrefix; len = 2; faults_from = 0; faults_to = 0 } ∷ [] in
    meaning (codes "##") (recorded (codes "##") marks) (λ p. []) 0

-- before 2024 it is cut, so it is no single token; from then on it is one, and an error
abbrev pub GuardedPrefix : Type 0
GuardedPrefix = (single_answer hashes 2 ≡ Ok None) × (single_answer hashes 3 ≡ Ok (Some (151, Some 5)))

-- `+a-`, by the scanner: three tokens and the end
abbrev pub sum : Lexed
sum = lexed (meaning (codes "+a-") (scanned (codes "+a-")) (λ p. []) 0) 3

-- and no entry of the parser's input is joint
abbrev pub NoJointAroundName : Type 0
NoJointAroundName =
    (kinds_of sum ≡ 19 ∷ 153 ∷ 36 ∷ 1 ∷ []) × (starts_of sum ≡ 0 ∷ 1 ∷ 2 ∷ 3 ∷ [])
    × (map (joint_at (codes "+a-") (19 ∷ 153 ∷ 36 ∷ 1 ∷ []) (0 ∷ 1 ∷ 2 ∷ 3 ∷ [])) (kept (19 ∷ 153 ∷ 36 ∷ 1 ∷ []) 3) ≡ false ∷ false ∷ false ∷ [])

abbrev pub TokenExamples : Type 0
TokenExamples = GuardedPrefix × NoJointAroundName
