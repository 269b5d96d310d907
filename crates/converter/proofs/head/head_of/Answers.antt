use Rattle.std.proofs.Common.{◌≡◌, ap, ◌∙◌, rules}
use Rattle.converter.specs.Lexing.{told}
use Rattle.converter.proofs.Heads.{parts_head, told_head, mapped_end, mapped_start}
use Rattle.converter.proofs.head.head_of.Goals as goal

pub returns-in-Ok : goal.returns-in-Ok
returns-in-Ok g c =
    let m = g.S.RawSource in
    let s = c.args.source.now in
    let shebang = mapped_end c.in-Ok.parts.shebang c.map.result _ (λ x y h. search rules) c.map.ensures.cases in
    let frontmatter = mapped_start c.in-Ok.parts.frontmatter c.in-Ok.parts.content.start c.map-in-Ok.result _ (λ x y h. search rules) c.map-in-Ok.ensures.cases in
    let both = parts_head (m.script s) _ c.in-Ok.parts (m.shebang s) _ _ (g.met.S.RawSource.laws.admitted s) c.script.ensures c.in-Ok.ensures.value c.in-Ok.ensures.reads shebang frontmatter in
    record { value = both.0; fits = both.1 }

pub returns-in-Err : goal.returns-in-Err
returns-in-Err g c =
    let m = g.S.RawSource in
    let s = c.args.source.now in
    let shebang : c.then_some.result ≡ told c.shebang_len-len.result = search rules in
    let both = told_head (m.script s) _ c.in-Err.field-0 (m.shebang s) _ (g.met.S.RawSource.laws.admitted s) c.script.ensures c.in-Err.ensures.value (g.met.S.RawSource.laws.shebangs s) (shebang ∙ ap told c.shebang_len-len.ensures) in
    record { value = both.0; fits = both.1 }
