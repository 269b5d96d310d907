use Rattle.std.proofs.Common.{◌-◌, ◌<◌, ◌↔◌, length, IsTrue, rules, sym, ◌∙◌}
use Rattle.std.proofs.lemmas.Bool.{false≢true}
use Rattle.lexed_str.specs.Columns.{tokens, token_at}
use Rattle.lexed_str.specs.Offering.{error_fits}
use Rattle.lexed_str.proofs.Accepted.{errors_each, each_ascends, each_last}
use Rattle.lexed_str.proofs.Below.{below_told}
use Rattle.lexed_str.proofs.offer.Offer.errors_fit.Goals as goal

pub returns-then-errors_ascend : goal.returns-then-errors_ascend
returns-then-errors_ascend c =
    let es = c.args.self.now.errors.now in
    let n = tokens c.args.self.now.kinds.now in
    let last : IsTrue c.is_none_or.result ↔ (0 < length es → token_at es (length es - 1) < n) = search rules in
    below_told (error_fits n es) (length es) c.is_none_or.result
    (λ e. errors_each n es (c.errors_ascend.ensures.0 c.if-errors_ascend.true) (last.0 e), λ each. last.1 (each_last n es each))

pub returns-else-errors_ascend : goal.returns-else-errors_ascend
returns-else-errors_ascend c =
    let es = c.args.self.now.errors.now in
    let n = tokens c.args.self.now.kinds.now in
    below_told (error_fits n es) (length es) c.errors_ascend.result
    (λ e. absurd (false≢true (sym c.if-errors_ascend.false ∙ e)), λ each. c.errors_ascend.ensures.1 (each_ascends n es each))
