-- Parts and kinds that may be missing, as they are printed.
use Rattle.std.proofs.Common.{◌≡◌, ℕ, List, Some, None, Option, refl, codes}
use Rattle.std.specs.Option.{option_map_or}
use Rattle.std.specs.Fmt.{decimal, ◌++?◌}
use Rattle.frontmatter.specs.declared.source.ScriptSource.{ScriptSource}
use Rattle.frontmatter.specs.declared.source.Span.{Span}
use Rattle.answers.specs.declared.answer.Keywords.{Keywords}
use Rattle.frontmatter.specs.Texts.{span_text}
use Rattle.answers.specs.Texts.{part_text, parts_text, kind_text, kinds_text}

abbrev part : Option Span → Option (List ℕ)
part o = option_map_or (λ s. Some (span_text s)) o (Some (codes "-"))

part_output : (o : Option Span) → part o ≡ Some (part_text o)
part_output None = refl
part_output (Some s) = refl

abbrev kind : Option ℕ → Option (List ℕ)
kind o = option_map_or (λ k. Some (decimal k)) o (Some (codes "-"))

kind_output : (o : Option ℕ) → kind o ≡ Some (kind_text o)
kind_output None = refl
kind_output (Some k) = refl

pub kinds_output : (k : Keywords) → (Some (codes "keyword ") ++? (kind k.strict ++? (Some (codes " contextual ") ++? kind k.contextual))) ≡ Some (kinds_text k)
kinds_output k = simp kind_output

pub parts_output : (s : ScriptSource) →
    (Some (codes "ok shebang=") ++?
    (part s.shebang ++?
    (Some (codes " open=") ++?
    (part s.«open» ++?
    (Some (codes " info=") ++?
    (part s.info ++?
    (Some (codes " frontmatter=") ++?
    (part s.frontmatter ++?
    (Some (codes " close=") ++?
    (part s.close ++?
    (Some (codes " content=") ++?
    Some (span_text s.content))))))))))))
    ≡ Some (parts_text s)
parts_output s = simp part_output
