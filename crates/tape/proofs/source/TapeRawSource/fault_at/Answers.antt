use Rattle.std.proofs.Common.{arith}
use Rattle.std.proofs.lemmas.Bool.Decides.{nat_tests}
use Rattle.tape.proofs.Parts.{fault_read}
use Rattle.tape.proofs.source.TapeRawSource.fault_at.Goals as goal

pub returns : goal.returns
returns c =
    let read = fault_read c.faults_at.result.now _ c.get.result c.get.ensures.lookup in
    grind (arith, nat_tests)
