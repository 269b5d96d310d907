use Rattle.std.proofs.Common.{◌≡◌, ◌+◌, length, take, drop, ap, ◌∙◌, arith}
use Rattle.std.proofs.lemmas.Slice.{between_to_end}
use Rattle.questions.specs.Places.{place_of}
use Rattle.questions.proofs.Places.{place_cases}
use Rattle.questions.proofs.words.split_once.Goals as goal

pub returns-in_err-at : goal.returns-in_err-at
returns-in_err-at c =
    let cases = place_cases c.args.sign c.args.text.now in
    let none = rw (← c.in_err-at.ensures) at cases in
    rw c.from_residual.ensures none

pub returns : goal.returns
returns c =
    let text = c.args.text.now in
    let cases = place_cases c.args.sign text in
    let some = rw (← c.in_ok-at.ensures) at cases in
    let at : c.in_ok-at.at ≡ place_of c.args.sign text = some.0 in
    (some.1, ap (λ k. take k text) at, between_to_end text (c.in_ok-at.at + 1) (length text) (omega arith) ∙ ap (λ k. drop (k + 1) text) at)
