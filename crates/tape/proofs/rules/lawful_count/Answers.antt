use Rattle.std.proofs.Common.{arith}
use Rattle.tape.proofs.Counts.{stops, goes_on, all_read}
use Rattle.tape.proofs.rules.lawful_count.Goals as goal

pub returns-then-not-lawful : goal.returns-then-not-lawful
returns-then-not-lawful c =
    stops c.args.script.now.bytes.now c.args.column c.args.marks.now c.loop-number.number c.loop-number.least _ _ (omega arith) c.if-not-lawful.ensures c.loop-number.invariant

pub loop-number-preserved : goal.loop-number-preserved
loop-number-preserved c =
    goes_on c.args.script.now.bytes.now c.args.column c.args.marks.now c.loop-number.number c.loop-number.least _ _ (omega arith) c.if-not-lawful.ensures c.loop-number.invariant

pub returns : goal.returns
returns c =
    all_read c.args.script.now.bytes.now c.args.column c.args.marks.now c.loop-number.number c.loop-number.least _ (omega arith) c.loop-number.invariant
