use Rattle.std.proofs.Common.{◌≡◌, sym, ap, ◌∙◌, subst}
use Rattle.syntax_kind.specs.Editions.{edition_number}
use Rattle.converter.specs.Meaning.{means}
use Rattle.converter.specs.Single.{Single, single}
use Rattle.converter.proofs.Singles.{single_is}
use Rattle.converter.proofs.single.single_token.Goals as goal

pub returns-clause-alone : goal.returns-clause-alone
returns-clause-alone g c =
    let s = g.S.RawSource in
    let x = c.args.source.now in
    let m = means s x in
    let e : edition_number c.in_ok-try_from.field-0 ≡ c.args.edition = c.in_ok-try_from.ensures in
    subst (Single m c.args.edition) (sym (c.single.ensures ∙ ap (single m) e)) (single_is m c.args.edition)
