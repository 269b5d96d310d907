use Rattle.std.proofs.Common.{sym, subst}
use Rattle.script.specs.Sequences.{Run}
use Rattle.script.specs.WhiteTable.{white}
use Rattle.script.proofs.Joins.{run_is}
use Rattle.script.proofs.Tables.{white_fair}
use Rattle.script.proofs.places.white_end.Goals as goal

pub returns-clause-run : goal.returns-clause-run
returns-clause-run c = λ l.
    let bs = c.args.bytes.now in
    subst (Run white bs c.args.place) (sym c.run_end.ensures) (run_is white white_fair bs c.args.place l)
