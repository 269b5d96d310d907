-- Worked examples, evaluated from the definitions that the contracts cite.
use Rattle.std.specs.Prelude.{◌≡◌, ℕ, List, [], ◌∷◌, ◌++◌, Some, None, Ok, Err, codes}
use Rattle.frontmatter.specs.declared.source.FaultKind.TheVariants.{FewerDashes, MoreDashes}
use Rattle.frontmatter.specs.declared.source.Failure.TheVariants.{Faulty}
use Rattle.frontmatter.specs.Parsed.{span}
use Rattle.frontmatter.specs.Parsing.{parsing}

-- a line with its LF
abbrev pub line : List ℕ → List ℕ
line bs = bs ++ 0x0A ∷ []

-- three dashes close what three dashes opened, and nothing stands between them
abbrev pub EmptyFrontmatter : Type 0
EmptyFrontmatter =
    parsing (line (codes "---") ++ line (codes "---"))
    ≡ Ok (record { shebang = None; «open» = Some (span 0 3); info = None; frontmatter = Some (span 4 4); close = Some (span 4 7); content = span 8 8 })

-- three dashes do not close what four opened
abbrev pub FewerDashesFault : Type 0
FewerDashesFault =
    parsing (line (codes "----") ++ line (codes "---"))
    ≡ Err (Faulty (record { kind = FewerDashes; primary = span 5 8; «open» = span 0 4; close = None }))

-- nor do four close what three opened
abbrev pub MoreDashesFault : Type 0
MoreDashesFault =
    parsing (line (codes "---") ++ line (codes "----"))
    ≡ Err (Faulty (record { kind = MoreDashes; primary = span 7 8; «open» = span 0 3; close = None }))

-- U+00A0 is no white space here, so `[` does not come next
abbrev pub ShebangBeforeNoBreakSpace : Type 0
ShebangBeforeNoBreakSpace =
    parsing (codes "#!" ++ (0xC2 ∷ 0xA0 ∷ codes "["))
    ≡ Ok (record { shebang = Some (span 0 5); «open» = None; info = None; frontmatter = None; close = None; content = span 5 5 })

-- U+200E is, so it does
abbrev pub NoShebangBeforeMark : Type 0
NoShebangBeforeMark =
    parsing (codes "#!" ++ (0xE2 ∷ 0x80 ∷ 0x8E ∷ codes "["))
    ≡ Ok (record { shebang = None; «open» = None; info = None; frontmatter = None; close = None; content = span 0 6 })

abbrev pub Examples : Type 0
Examples = EmptyFrontmatter × FewerDashesFault × MoreDashesFault × ShebangBeforeNoBreakSpace × NoShebangBeforeMark
