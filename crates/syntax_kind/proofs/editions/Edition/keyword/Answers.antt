use Rattle.std.proofs.Common.{◌≡◌}
use Rattle.syntax_kind.specs.Editions.{edition_number}
use Rattle.syntax_kind.specs.Keywords.{look_up, strict}
use Rattle.syntax_kind.proofs.Computed.{strict_apart}
use Rattle.syntax_kind.proofs.Meaning.{right_in, alone_in}
use Rattle.syntax_kind.proofs.editions.Edition.keyword.Goals as goal

-- the code's rows are those of the definition, computed
pub returns : goal.returns
unfolding strict
returns c =
    let text = c.args.ident.now in
    let e = c.args.self in
    let is : c.look_up.result ≡ look_up strict text (edition_number e) = c.look_up.ensures in
    record { value = is; named = right_in strict strict_apart text e _ is; only = alone_in strict strict_apart text e _ is }
