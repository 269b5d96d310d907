-- The transcript, line by line.
use Rattle.std.proofs.Common.{◌≡◌, ℕ, zero, suc, ◌+◌, ◌≤◌, List, [], ◌∷◌, ◌++◌, length, take, drop, sym, refl, ap, ◌∙◌, arith}
use Rattle.std.specs.List.{flat_map}
use Rattle.std.proofs.lemmas.List.{length-drop}
use Rattle.questions.specs.Lines.{lines}
use Rattle.questions.specs.Places.{place_of}
use Rattle.questions.proofs.Places.{lines_first}
use Rattle.answers.specs.Transcript.{line_answer, answers_to, transcript}

-- with at least as many lines to answer as bytes, all lines are answered
answers_lines : (k : ℕ) (bs : List ℕ) → length bs ≤ k → answers_to k bs ≡ flat_map line_answer (lines bs)
answers_lines zero [] h = refl
answers_lines zero (b ∷ bs) h = absurd (omega arith)
answers_lines (suc k) [] h = refl
answers_lines (suc k) (b ∷ bs) h =
    let p = place_of 10 (b ∷ bs) in
    let rest = drop (p + 1) (b ∷ bs) in
    let fewer : length rest ≤ k = omega (arith, length-drop (p + 1) (b ∷ bs)) in
    ap (λ later. line_answer (take p (b ∷ bs)) ++ later) (answers_lines k rest fewer) ∙
    ap (flat_map line_answer) (sym (lines_first (b ∷ bs) (omega arith)))

pub transcript_lines : (bs : List ℕ) → transcript bs ≡ flat_map line_answer (lines bs)
transcript_lines bs = answers_lines (length bs) bs (omega arith)
