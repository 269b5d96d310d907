use Rattle.std.proofs.Common.{◌+◌, map, length, sym, ap, ◌∙◌, subst, arith}
use Rattle.raw.specs.declared.kinds.RawToken.{RawToken}
use Rattle.syntax_kind.specs.Editions.{edition_number}
use Rattle.converter.specs.declared.progress.Progress.{Progress}
use Rattle.converter.specs.Columns.{put, progress}
use Rattle.converter.specs.Lexing.{lex_error}
use Rattle.converter.proofs.Cutting.{Stands, cut_stands}
use Rattle.converter.proofs.Extending.{written_out, said_few, begins_there, same_held}
use Rattle.converter.proofs.convert.Converter.extend.Goals as goal

pub write_errors-requires : goal.write_errors-requires
write_errors-requires g c =
    let m = g.S.RawSource in
    let s = c.args.self.now.source.now in
    let sf = c.args.self.now.so_far in
    let p = sf.place in
    let at = c.args.self.now.reached in
    let on = begins_there (m.script s) p c.requires at.boundary_there in
    let P : RawToken → Type 0 = λ t. Stands (m.script s) p t (length (m.faults s p)) in
    let stands = subst P (sym c.token_at-token.ensures.value) (cut_stands (m.script s) p (g.met.S.RawSource.laws.admitted s) (edition_number c.args.self.now.edition) (m.token s p) (length (m.faults s p)) (g.met.S.RawSource.laws.tokens s p on)) in
    let few = said_few (m.script s) _ c.args.self.now.kinds.now c.args.self.now.starts.now (m.faults s p) sf _ _ _ stands c.complaint_of.ensures c.settle-complaint.ensures in
    omega (arith, few, ap length c.of.ensures, at.errors_few, ap (λ (x : Progress). x.errors) c.push.ensures.so_far, ap (λ (x : Progress). x.place) c.push.ensures.so_far)

pub returns-clause-held : goal.returns-clause-held
returns-clause-held g c =
    let m = g.S.RawSource in
    let s = c.args.self.now.source.now in
    let sf = c.args.self.now.so_far in
    let ks = c.args.self.now.kinds.now in
    let ss = c.args.self.now.starts.now in
    let es = c.args.self.now.errors.now in
    let at = c.args.self.now.reached in
    let room = c.args.self.now.room in
    let w = c.write_errors.ensures in
    let p = c.push.ensures in
    let codes = map (lex_error sf.tokens) c.of.result in
    let errors = w.errors ∙ ap (λ n. put n codes c.push.new.self.errors.now) (ap (λ (x : Progress). x.errors) p.so_far) ∙ ap (put sf.errors codes) p.errors in
    let so_far = w.so_far ∙ ap (λ (x : Progress). progress x.tokens (x.errors + length c.of.result) x.place) p.so_far in
    same_held _ _ _ _ _ _ _ _ (w.kinds ∙ p.kinds) (w.starts ∙ p.starts) errors so_far
    ∙ written_out (m.script s) _ ks ss es _ (m.token s) (m.faults s) (m.shebang s) (edition_number c.args.self.now.edition) sf _ _ _ _ _
    (omega (arith, at.tokens_few, c.requires, room.kinds)) (omega (arith, at.tokens_few, c.requires, room.starts)) (omega (arith, at.errors_few, c.requires, room.errors))
    (c.bytes.ensures ∙ c.script-script.ensures) c.token_at-token.ensures.value c.kind_of.ensures c.complaint_of.ensures c.settle-complaint.ensures
    (ap (λ cs. sf.errors + length cs) c.of.ensures) (ap (λ cs. put sf.errors (map (lex_error sf.tokens) cs) es) c.of.ensures)
