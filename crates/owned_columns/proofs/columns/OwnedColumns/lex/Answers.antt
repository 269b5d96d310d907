use Rattle.std.proofs.Common.{arith}
use Rattle.owned_columns.proofs.Holding.{cut_back, holds}
use Rattle.owned_columns.proofs.columns.OwnedColumns.lex.Goals as goal

pub returns-clause-holds : goal.returns-clause-holds
returns-clause-holds g c =
    let last = c.fill-counts.new in
    holds _ _ c.fill-counts.result last.kinds last.starts _ _ last.errors _
    (cut_back last.kinds c.in_ok-kinds.kinds.items _ c.in_ok-kinds.kinds.len _ (omega (arith, c.fill-counts.auto.kinds, c.as_mut_slice.ensures.len)) c.truncate.ensures.items)
    (cut_back last.starts c.in_ok-starts.starts.items _ c.in_ok-starts.starts.len _ (omega (arith, c.fill-counts.auto.starts, c.as_mut_slice-2.ensures.len)) c.truncate-2.ensures.items)
    (cut_back last.errors c.in_ok-errors.errors.items _ c.in_ok-errors.errors.len _ (omega (arith, c.fill-counts.auto.errors, c.as_mut_slice-3.ensures.len)) c.truncate-3.ensures.items)
    c.fill-counts.ensures.law
    c.fill-counts.ensures.fit
