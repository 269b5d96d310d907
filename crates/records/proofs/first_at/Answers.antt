use Rattle.std.proofs.Common.{◌≡◌, ◌∙◌, arith}
use Rattle.std.proofs.lemmas.Grind.{common_steps}
use Rattle.records.specs.Keys.{searched}
use Rattle.records.proofs.Firsts.{searched_first}
use Rattle.records.proofs.first_at.Goals as goal

pub returns-clause-first : goal.returns-clause-first
returns-clause-first g c = λ up.
    let value : c.then_some.result ≡ searched g.R.Keyed.key c.args.number c.args.records.now = grind (arith, common_steps) in
    value ∙ searched_first g.R.Keyed.key c.args.number c.args.records.now up
