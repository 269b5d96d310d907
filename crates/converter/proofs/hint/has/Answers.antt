use Rattle.std.proofs.Common.{rules}
use Rattle.converter.proofs.Seeking.{found}
use Rattle.converter.proofs.hint.has.Goals as goal

pub returns : goal.returns
returns c = found c.args.what.now c.requires _ c.windows.result _ c.any.result _ c.args.text.now (λ w b q k. search rules) c.windows.ensures.size c.windows.ensures.rest c.any.ensures.ran
