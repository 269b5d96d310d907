use Rattle.std.proofs.Common.{◌≡◌, Bool, cond, false, sym, ap, ◌∙◌}
use Rattle.std.specs.List.{between}
use Rattle.syntax_kind.specs.Editions.{edition_number}
use Rattle.converter.specs.declared.complaint.Complaint.{Complaint}
use Rattle.converter.specs.declared.complaint.Complaint.TheVariants.{Silent, Says}
use Rattle.converter.specs.declared.message.Message.TheVariants.{UnknownPrefix}
use Rattle.converter.specs.Codes.{settled}
use Rattle.converter.specs.Meaning.{means}
use Rattle.converter.proofs.Singles.{single_some, unsettled}
use Rattle.converter.proofs.single.single.Goals.{in-Prefix, in-Prefix-2, in_default}
use Rattle.converter.proofs.single.single.Goals as goal

pub returns : goal.returns
returns g c =
    let m = g.S.RawSource in
    let text = between 0 c.token_at-token.result.len c.bytes-bytes.result.now in
    let said : Bool → Complaint = λ b. cond b Silent (Says UnknownPrefix) in
    let settle : c.match-complaint_of.complaint ≡ settled false text c.complaint_of.result =
    elim c.match-complaint_of.branch [ in-Prefix w ↦ w.complaint-is ∙ ap said (sym w.if-is_builtin.true ∙ w.is_builtin.ensures) ∙ ap (settled false text) (sym w.in-Prefix.is) | in-Prefix-2 w ↦ w.complaint-is ∙ w.unknown_prefix-complaint.ensures ∙ ap said (sym w.if-is_builtin.false ∙ w.is_builtin.ensures) ∙ ap (settled false text) (sym w.in-Prefix-2.is) | in_default w ↦ w.complaint-is ∙ unsettled false text c.complaint_of.result w.in_default.not-Prefix ] in
    single_some (means m c.args.source.now) (edition_number c.args.edition) c.bytes-bytes.result.now c.token_at-token.result _ _ _ _ (sym c.if-not-is_whole.ensures.value) (c.bytes-bytes.ensures ∙ c.script-script.ensures) c.token_at-token.ensures.value c.kind_of.ensures c.complaint_of.ensures settle c.last_code.ensures
