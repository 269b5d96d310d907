use Rattle.std.proofs.Common.{◌≡◌, ◌+◌, ◌-◌, ap, ◌∙◌, arith}
use Rattle.script.specs.Sequences.{run_end}
use Rattle.script.specs.WhiteTable.{white}
use Rattle.raw.specs.declared.kinds.RawKind.TheVariants.{Whitespace}
use Rattle.scanner.specs.Comments.{comment}
use Rattle.scanner.specs.Tokens.{span_of}
use Rattle.scanner.proofs.Choice.{white_there, comment_there, word_there}
use Rattle.scanner.proofs.rest.Rest.token.Goals as goal

pub returns-then-self-end : goal.returns-then-self-end
returns-then-self-end c =
    let rest = c.args.self.now in
    let p = rest.place in
    let e = c.white_end-end.result in
    let to : p + (e - p) ≡ e = omega arith in
    white_there rest.script.bytes.now p e (c.white_end-end.ensures.value ∙ ap (λ z. run_end white z p) c.bytes.ensures) c.span.result c.if-self-end.true (c.span.ensures ∙ ap (span_of Whitespace p) to)

pub returns-in-Some : goal.returns-in-Some
returns-in-Some c =
    let rest = c.args.self.now in
    comment_there rest.script.bytes.now rest.place c.white_end-end.result (c.white_end-end.ensures.value ∙ ap (λ z. run_end white z rest.place) c.bytes.ensures) c.in-Some.comment c.if-self-end.false (c.in-Some.ensures.value ∙ ap comment rest.left)

pub returns-in-None : goal.returns-in-None
returns-in-None c =
    let rest = c.args.self.now in
    c.word.ensures ∙ word_there rest.script.bytes.now rest.place c.white_end-end.result (c.white_end-end.ensures.value ∙ ap (λ z. run_end white z rest.place) c.bytes.ensures) c.if-self-end.false (c.in-None.ensures.value ∙ ap comment rest.left)
