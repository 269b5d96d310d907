use Rattle.std.proofs.Common.{◌++◌, sym, ap, ◌∙◌}
use Rattle.std.specs.List.{flat_map}
use Rattle.questions.specs.Lines.{lines}
use Rattle.answers.specs.Transcript.{line_answer}
use Rattle.answers.proofs.Lines.{transcript_lines}
use Rattle.answers.proofs.replay.replay.Goals as goal

pub loop-line-init : goal.loop-line-init
loop-line-init c =
    ap (λ out. out ++ flat_map line_answer (lines c.into_iter-line-iterator.result.0.now)) c.new-output.ensures.bytes ∙
    ap (λ s. flat_map line_answer (lines s.0.now)) c.into_iter-line-iterator.ensures.into_iter_gives ∙
    sym (transcript_lines c.args.input.now)
