use Rattle.std.proofs.Common.{rules}
use Rattle.std.proofs.iter.runs.Made.{chains}
use Rattle.lexed_str.proofs.offer.Offer.tokens_fit.Goals as goal

pub returns : goal.returns
returns c = search (rules, chains) fits 4000
