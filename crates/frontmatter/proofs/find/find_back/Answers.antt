use Rattle.std.proofs.Common.{true, false, sym, ◌∙◌, arith}
use Rattle.frontmatter.specs.Lines.{at}
use Rattle.frontmatter.proofs.Searched.{last_here, last_before}
use Rattle.frontmatter.proofs.find.find_back.Goals as goal

pub returns-then-passes-clause-value : goal.returns-then-passes-clause-value
returns-then-passes-clause-value g c = λ t tells.
    let p = c.loop-place.place in
    let here = last_here (at t c.args.bytes.now) c.args.from p (omega arith) (sym (tells _ true c.if-passes.ensures)) in
    omega (arith, here, c.loop-place.invariant t tells)

pub loop-place-preserved : goal.loop-place-preserved
loop-place-preserved g c = λ t tells.
    sym (last_before (at t c.args.bytes.now) c.args.from c.loop-place.place (omega arith) (sym (tells _ false c.if-passes.ensures))) ∙ c.loop-place.invariant t tells
