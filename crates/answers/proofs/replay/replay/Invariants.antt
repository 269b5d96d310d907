use Rattle.std.proofs.Common.{◌≡◌, ◌++◌, string_bytes}
use Rattle.std.specs.List.{flat_map}
use Rattle.questions.specs.Lines.{lines}
use Rattle.answers.specs.Transcript.{line_answer, transcript}
use Rattle.answers.proofs.replay.replay.Given as goal

-- what is printed, before the answers to the lines that are left
abbrev pub invariant-loop-line : goal.invariant-loop-line
invariant-loop-line l = string_bytes l.output ++ flat_map line_answer (lines l.line-iterator.0.now) ≡ transcript l.input
