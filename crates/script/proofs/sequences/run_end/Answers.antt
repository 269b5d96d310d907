use Rattle.std.proofs.Common.{◌+◌, sym, ap, ◌∙◌, arith}
use Rattle.script.specs.Sequences.{run_end}
use Rattle.script.proofs.Runs.{step_within, run_step, run_stop}
use Rattle.script.proofs.sequences.run_end.Goals as goal

pub overflow_add-at : goal.overflow_add-at
overflow_add-at g c = omega (arith, step_within (g.T.Table.rows c.args.table.now) c.args.bytes.now c.loop-from.at c.sequence_len-len.result c.sequence_len-len.ensures c.if-len-eq0.false)

pub loop-from-smaller : goal.loop-from-smaller
loop-from-smaller g c = omega (arith, step_within (g.T.Table.rows c.args.table.now) c.args.bytes.now c.loop-from.at c.sequence_len-len.result c.sequence_len-len.ensures c.if-len-eq0.false)

pub loop-from-preserved : goal.loop-from-preserved
loop-from-preserved g c =
    let t = g.T.Table.rows c.args.table.now in
    ap (λ n. run_end t c.args.bytes.now (c.loop-from.at + n)) c.sequence_len-len.ensures
    ∙ run_step t c.args.bytes.now c.loop-from.at ∙ c.loop-from.invariant

pub returns-then-len-eq0 : goal.returns-then-len-eq0
returns-then-len-eq0 g c =
    let t = g.T.Table.rows c.args.table.now in
    sym (run_stop t c.args.bytes.now c.loop-from.at (omega (arith, c.sequence_len-len.ensures))) ∙ c.loop-from.invariant
