use Rattle.std.proofs.Common.{◌≡◌}
use Rattle.frontmatter.specs.Closes.{close_of}
use Rattle.frontmatter.proofs.reader.Reader.find_close.Given as goal

abbrev pub invariant-loop-n : goal.invariant-loop-n
invariant-loop-n l =
    (l.self.at ≡ l.initial.self.at)
    × (l.self.bytes.now ≡ l.initial.self.bytes.now)
    × (close_of l.self.bytes.now l.self.at l.n ≡ close_of l.self.bytes.now l.self.at l.dashes)
