use Rattle.std.proofs.Common.{ℕ, List, sym, ap, ◌∙◌}
use Rattle.frontmatter.specs.Lines.{dash_end, blank_end}
use Rattle.frontmatter.proofs.Stages.{whole}
use Rattle.frontmatter.proofs.parse.read_script.Goals as goal

pub returns : goal.returns
returns c =
    let s = c.args.bytes.now in
    let first = c.read_shebang-shebang.ensures in
    let skip = c.skip_blank_lines.ensures in
    let dashes = c.dashes-fence.ensures in
    let body = c.read_shebang-shebang.new.self.at in
    let same1 = first.bytes in
    let same2 = skip.bytes ∙ same1 in
    whole s c.dashes-fence.new.self.bytes.now c.read_shebang-shebang.result body c.dashes-fence.result c.read_opening.result
    (dashes.bytes ∙ same2)
    first.value
    first.after
    (dashes.start ∙ (skip.after ∙ ap (λ (z : List ℕ). blank_end z body) same1))
    (dashes.end ∙ (ap (λ (z : List ℕ). dash_end z c.skip_blank_lines.new.self.at) same2 ∙ ap (dash_end s) (sym dashes.start)))
    c.read_opening.ensures
