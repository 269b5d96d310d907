-- What `{}` prints of spans and faults.
use Rattle.std.specs.Prelude.{ℕ, List, ◌++◌, codes, decimal}
use Rattle.frontmatter.specs.declared.source.Span.{Span}
use Rattle.frontmatter.specs.declared.source.FaultKind.{FaultKind}
use Rattle.frontmatter.specs.declared.source.FaultKind.TheVariants.{TooFewDashes, Unclosed, FewerDashes, MoreDashes, TextAfterClose, SecondFence}

abbrev pub span_text : Span → List ℕ
span_text s = decimal s.start ++ (codes ".." ++ decimal s.end)

-- what each fault means, in plain words
abbrev pub meaning_of : FaultKind → List ℕ
meaning_of TooFewDashes = codes "fewer than three dashes open no frontmatter"
meaning_of Unclosed = codes "the frontmatter is never closed"
meaning_of FewerDashes = codes "the closing fence has fewer dashes than the opening one"
meaning_of MoreDashes = codes "the closing fence has more dashes than the opening one"
meaning_of TextAfterClose = codes "text follows the closing fence"
meaning_of SecondFence = codes "a second frontmatter follows"
