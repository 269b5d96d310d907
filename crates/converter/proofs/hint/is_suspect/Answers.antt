use Rattle.std.proofs.Common.{◌≡◌, ◌&&◌, true, eqb, sym, ap, ◌∙◌, rules, eq-eqb}
use Rattle.converter.specs.Hints.{telling}
use Rattle.converter.specs.Names.{STRING}
use Rattle.converter.proofs.Seeking.{part_tells}
use Rattle.converter.proofs.hint.is_suspect.Goals as goal

pub returns-then-kind-eq-STRING : goal.returns-then-kind-eq-STRING
returns-then-kind-eq-STRING c =
    let is : eqb c.args.kind STRING ≡ true = eq-eqb c.args.kind STRING c.if-kind-eq-STRING.true in
    part_tells c.args.script.now c.args.end c.args.start c.min.result c.get.result c.is_some_and.result _ c.min.ensures c.get.ensures.lookup c.is_some_and.ensures (λ x h. search rules)
    ∙ sym (ap (λ b. b && telling c.args.script.now c.args.start c.args.end) is)
