use Rattle.std.proofs.Common.{sym, ◌∙◌}
use Rattle.scanner.specs.Classes.{word}
use Rattle.scanner.proofs.Choice.{letter_there}
use Rattle.scanner.proofs.rest.Rest.word.Goals as goal

pub returns-in-len1-up : goal.returns-in-len1-up
returns-in-len1-up c =
    let rest = c.args.self.now in
    letter_there rest.script.bytes.now rest.place c.run_len.result rest.bytes.now c.span.result c.in-len1-up.len_at_least rest.left (sym c.is_letter.ensures ∙ c.if-is_letter.true) (c.run_len.ensures.value word (λ x b p. p)) c.span.ensures
