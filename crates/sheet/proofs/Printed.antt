-- Parts that may be missing, as they are printed.
use Rattle.std.proofs.Common.{◌≡◌, ℕ, List, Some, None, Option, refl, codes}
use Rattle.std.specs.Option.{option_map_or}
use Rattle.std.specs.Fmt.{◌++?◌}
use Rattle.frontmatter.specs.declared.source.ScriptSource.{ScriptSource}
use Rattle.frontmatter.specs.declared.source.Span.{Span}
use Rattle.frontmatter.specs.Texts.{span_text}
use Rattle.sheet.specs.Texts.{part_text, parts_text}

abbrev part : Option Span → Option (List ℕ)
part o = option_map_or (λ s. Some (span_text s)) o (Some (codes "none"))

part_output : (o : Option Span) → part o ≡ Some (part_text o)
part_output None = refl
part_output (Some s) = refl

pub parts_output : (s : ScriptSource) →
    (Some (codes "shebang      ") ++?
    (part s.shebang ++?
    (Some (codes "\nfence        ") ++?
    (part s.«open» ++?
    (Some (codes "\ninfo         ") ++?
    (part s.info ++?
    (Some (codes "\nfrontmatter  ") ++?
    (part s.frontmatter ++?
    (Some (codes "\nclose        ") ++?
    (part s.close ++?
    (Some (codes "\ncontent      ") ++?
    Some (span_text s.content))))))))))))
    ≡ Some (parts_text s)
parts_output s = simp part_output
