use Rattle.std.proofs.Common.{sym, subst}
use Rattle.script.specs.Sequences.{Stands}
use Rattle.script.specs.WhiteTable.{white}
use Rattle.script.proofs.Joins.{stands_there}
use Rattle.script.proofs.Tables.{white_fair}
use Rattle.script.proofs.places.white_len.Goals as goal

pub returns-clause-character : goal.returns-clause-character
returns-clause-character c =
    let bs = c.args.bytes.now in
    subst (Stands white bs c.args.place) (sym c.sequence_len.ensures) (stands_there white white_fair bs c.args.place)
