use Rattle.std.proofs.Common.{arith}
use Rattle.std.proofs.lemmas.Bool.Decides.{nat_tests}
use Rattle.script.proofs.Tables.{white_written}
use Rattle.script.proofs.sequences.WhiteTable.sequence_len.Goals as goal

pub returns-in-Some-eq194 : goal.returns-in-Some-eq194
returns-in-Some-eq194 c = white_written c.args.bytes.now c.args.at c.led.result (grind (arith, nat_tests))

pub returns-in-Some-eq226 : goal.returns-in-Some-eq226
returns-in-Some-eq226 c = white_written c.args.bytes.now c.args.at c.white_mark.result (grind (arith, nat_tests))

pub returns-in_default : goal.returns-in_default
returns-in_default c = white_written c.args.bytes.now c.args.at 0 (grind (arith, nat_tests))

pub returns-in_default-2 : goal.returns-in_default-2
returns-in_default-2 c = white_written c.args.bytes.now c.args.at 0 (grind (arith, nat_tests))

pub returns-in_default-3 : goal.returns-in_default-3
returns-in_default-3 c = white_written c.args.bytes.now c.args.at 0 (grind (arith, nat_tests))

pub returns-in_default-4 : goal.returns-in_default-4
returns-in_default-4 c = white_written c.args.bytes.now c.args.at 0 (grind (arith, nat_tests))
