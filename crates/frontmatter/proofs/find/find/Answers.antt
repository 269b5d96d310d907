use Rattle.std.proofs.Common.{true, false, sym, ◌∙◌, arith}
use Rattle.frontmatter.specs.Lines.{at}
use Rattle.frontmatter.proofs.Searched.{first_here, first_later}
use Rattle.frontmatter.proofs.find.find.Goals as goal

pub returns-then-passes-clause-value : goal.returns-then-passes-clause-value
returns-then-passes-clause-value g c = λ t tells.
    sym (first_here (at t c.args.bytes.now) c.loop-place.place c.args.end (omega arith) (sym (tells _ true c.if-passes.ensures))) ∙ c.loop-place.invariant t tells

pub loop-place-preserved : goal.loop-place-preserved
loop-place-preserved g c = λ t tells.
    sym (first_later (at t c.args.bytes.now) c.loop-place.place c.args.end (omega arith) (sym (tells _ false c.if-passes.ensures))) ∙ c.loop-place.invariant t tells
