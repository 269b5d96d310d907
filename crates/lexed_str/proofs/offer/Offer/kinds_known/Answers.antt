use Rattle.std.proofs.Common.{leb, length, rules}
use Rattle.std.proofs.iter.runs.Made.{chains}
use Rattle.lexed_str.specs.Columns.{kind_at, last_kind}
use Rattle.lexed_str.proofs.Below.{below_told}
use Rattle.lexed_str.proofs.offer.Offer.kinds_known.Goals as goal

pub returns : goal.returns
returns c =
    let ks = c.args.self.now.kinds.now in
    below_told (λ i. leb (kind_at ks i) last_kind) (length ks) c.all.result (search (rules, chains))
