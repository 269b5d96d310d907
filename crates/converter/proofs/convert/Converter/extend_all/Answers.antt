use Rattle.std.proofs.Common.{length, ap, ◌∙◌, subst, arith}
use Rattle.syntax_kind.specs.Editions.{edition_number}
use Rattle.converter.specs.Columns.{held, Reached}
use Rattle.converter.specs.Lexing.{extend}
use Rattle.converter.specs.Meaning.{means}
use Rattle.converter.proofs.Running.{turn, done}
use Rattle.converter.proofs.convert.Converter.extend_all.Goals as goal

pub loop-self-preserved : goal.loop-self-preserved
loop-self-preserved g c =
    let m = g.S.RawSource in
    let s = c.args.self.now.source.now in
    let now = c.loop-self.self in
    let i = c.loop-self.invariant in
    let e = c.extend.ensures in
    let same = ap length (c.bytes-end.ensures ∙ c.script.ensures) in
    let before = held now.kinds.now now.starts.now now.errors.now now.so_far in
    let held = e.held ∙ ap (λ x. extend (means m x) (edition_number now.edition) before) i.0.0 ∙ ap (λ x. extend (means m s) (edition_number x) before) i.0.1 in
    let reached = subst (λ x. Reached (m.script x) c.extend.new.self.so_far) (e.same.0 ∙ i.0.0) c.extend.new.self.reached in
    ((e.same.0 ∙ i.0.0, e.same.1 ∙ i.0.1, e.same.2 ∙ i.0.2, e.same.3 ∙ i.0.3, e.same.4 ∙ i.0.4), turn _ _ _ _ _ _ _ _ _ _ _ _ _ _ i.1 (omega (arith, same, c.loop-self-test.true, ap length (ap m.script i.0.0))) reached held e.kept e.more.0 e.more.1)

pub returns-clause-held : goal.returns-clause-held
returns-clause-held g c =
    let same = ap length (c.bytes-end.ensures ∙ c.script.ensures) in
    done _ _ _ _ _ _ _ _ _ _ c.loop-self.invariant.1 (omega (arith, same, c.loop-self-test.false))
