use Rattle.std.proofs.Common.{length, sym, ap, ◌∙◌, subst}
use Rattle.raw.specs.declared.kinds.RawToken.{RawToken}
use Rattle.syntax_kind.specs.Editions.{edition_number}
use Rattle.converter.specs.Cuts.{cut}
use Rattle.converter.proofs.Cutting.{Stands, cut_stands}
use Rattle.converter.proofs.extend.token_at.Goals as goal

pub returns : goal.returns
returns g c =
    let m = g.S.RawSource in
    let s = c.args.source.now in
    let p = c.args.place in
    let value = c.cut.ensures ∙ ap (cut (edition_number c.args.edition)) c.raw_token_at.ensures in
    let P : RawToken → Type 0 = λ t. Stands (m.script s) p t (length (m.faults s p)) in
    let stands = subst P (sym value) (cut_stands (m.script s) p (g.met.S.RawSource.laws.admitted s) (edition_number c.args.edition) (m.token s p) (length (m.faults s p)) (g.met.S.RawSource.laws.tokens s p c.requires)) in
    record { value = value; some = stands.some; within = stands.within; ends = stands.ends }
