use Rattle.std.proofs.Common.{◌<◌, length, refl, arith, rules}
use Rattle.std.proofs.lemmas.Bool.Decides.{nat_tests}
use Rattle.questions.proofs.Places.{lines_split}
use Rattle.questions.proofs.text.LinesIterator.next.Goals as goal

pub returns-clause-steps : goal.returns-clause-steps
returns-clause-steps c =
    let some : 0 < length c.args.self.now.0.now = grind (arith, nat_tests, c.if-is_empty.ensures) in
    lines_split c.args.self.now.0.now c.split_once.result _ c.unwrap_or.result c.split_once.ensures some refl refl c.unwrap_or.ensures

pub returns-clause-goes : goal.returns-clause-goes
returns-clause-goes c = let step = returns-clause-steps c in search rules
