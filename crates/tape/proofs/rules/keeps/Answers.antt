use Rattle.std.proofs.Common.{◌≡◌, ◌+◌, true, arith, sym, ap, ◌∙◌}
use Rattle.std.specs.List.{between}
use Rattle.std.proofs.lemmas.Bool.Decides.{nat_tests}
use Rattle.raw.specs.Forms.{form}
use Rattle.raw.specs.Laws.{spelled}
use Rattle.tape.proofs.Spellings.{spelled_text}
use Rattle.tape.proofs.rules.keeps.Goals as goal

pub returns-then-spelled : goal.returns-then-spelled
returns-then-spelled c =
    let bs = c.args.script.now.bytes.now in
    let m = c.args.mark.now in
    let text = c.in-Some.ensures.lookup.0 in
    let same = spelled_text bs c.in-Some.text.now m.place m.len (form m.kind) (text.2 ∙ ap (between m.place (m.place + m.len)) c.bytes.ensures) text.3 (grind (arith, nat_tests)) in
    let yes : spelled bs m.place m.len (form m.kind) ≡ true = sym same ∙ sym c.spelled.ensures ∙ c.if-spelled.true in
    grind (arith, nat_tests)
