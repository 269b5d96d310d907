use Rattle.std.proofs.Common.{arith}
use Rattle.std.proofs.lemmas.Grind.{common_steps}
use Rattle.lexed_str.specs.Columns.{tokens}
use Rattle.lexed_str.specs.Offering.{token_fits}
use Rattle.lexed_str.proofs.Below.{below_told}
use Rattle.lexed_str.proofs.offer.Offer.columns_fit.Goals as goal
use Rattle.lexed_str.proofs.offer.Offer.columns_fit.Goals.{then-ends_fit, else-ends_fit}

pub returns-then-tokens_fit : goal.returns-then-tokens_fit
returns-then-tokens_fit c =
    let s = c.args.self.now in
    let fits = token_fits s.script.bytes.now s.kinds.now s.starts.now in
    elim c.if-ends_fit.branch [
      | then-ends_fit w ↦ let each = below_told fits (tokens s.kinds.now) w.tokens_fit.result w.tokens_fit.ensures in grind (arith, common_steps)
      | else-ends_fit w ↦ grind (arith, common_steps)
    ]

pub returns-else-tokens_fit : goal.returns-else-tokens_fit
returns-else-tokens_fit c =
    let s = c.args.self.now in
    let fits = token_fits s.script.bytes.now s.kinds.now s.starts.now in
    elim c.if-ends_fit.branch [
      | then-ends_fit w ↦ let each = below_told fits (tokens s.kinds.now) w.tokens_fit.result w.tokens_fit.ensures in grind (arith, common_steps)
      | else-ends_fit w ↦ grind (arith, common_steps)
    ]
