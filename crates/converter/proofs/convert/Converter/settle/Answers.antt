use Rattle.std.proofs.Common.{◌≡◌, false, cond, codes, sym, ap, ◌∙◌}
use Rattle.std.specs.Str.{bytes_eq}
use Rattle.converter.specs.declared.complaint.Complaint.TheVariants.{Silent, Says}
use Rattle.converter.specs.declared.message.Message.TheVariants.{UnknownPrefixNearString, UnknownPrefix}
use Rattle.converter.specs.Codes.{settled}
use Rattle.converter.specs.Hints.{hint}
use Rattle.converter.proofs.convert.Converter.settle.Goals as goal

pub returns-in-Prefix-2 : goal.returns-in-Prefix-2
returns-in-Prefix-2 g c =
    let s = c.args.self.now in
    let text = c.args.text.now in
    let h = hint (g.S.RawSource.script s.source.now) s.kinds.now s.starts.now 5 s.so_far.tokens s.so_far.place in
    let near = c.has_likely_unterminated_string.ensures ∙ ap (λ bs. hint bs s.kinds.now s.starts.now 5 s.so_far.tokens s.so_far.place) (c.bytes.ensures ∙ c.script.ensures) in
    let other : bytes_eq text (codes "builtin") ≡ false = sym c.is_builtin.ensures ∙ c.if-is_builtin.false in
    c.unknown_prefix.ensures
    ∙ ap (λ n. cond n (Says UnknownPrefixNearString) (Says UnknownPrefix)) near
    ∙ ap (λ b. cond b Silent (cond h (Says UnknownPrefixNearString) (Says UnknownPrefix))) (sym other)
    ∙ ap (settled h text) (sym c.in-Prefix-2.is)
