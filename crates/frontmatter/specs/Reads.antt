-- Frontmatter by RFC 3503: a fence opens at a line's start with three dashes or more, closes at the first line that begins
-- with as many, and nothing but blanks follows it; what stands between is the frontmatter, and what is left is the content.
-- Each fault has its reason. What the code answers is the one answer that stands in this relation to the script.
use Rattle.std.specs.Prelude.{◌≡◌, ℕ, ◌+◌, ◌-◌, ◌<◌, ◌≤◌, ◌⊎◌, List, length, Some, None, Ok, Err, Option}
use Rattle.frontmatter.specs.declared.parse.Opening.{Opening}
use Rattle.frontmatter.specs.declared.source.Span.{Span}
use Rattle.frontmatter.specs.declared.source.ScriptSource.{ScriptSource}
use Rattle.frontmatter.specs.declared.source.Fault.{Fault}
use Rattle.frontmatter.specs.declared.source.FaultKind.{FaultKind}
use Rattle.frontmatter.specs.declared.source.FaultKind.TheVariants.{TooFewDashes, Unclosed, FewerDashes, MoreDashes, TextAfterClose, SecondFence}
use Rattle.frontmatter.specs.Fences.{Byte, Dashes, Line, NextLine, WhiteSpace, BlankLines, Begins, FirstLine, Text, LessCr}
use Rattle.frontmatter.specs.Parsed.{Answer, span}

-- `#!`, white space and `[`: the script begins with an attribute
abbrev pub Attribute : List ℕ → Type 0
Attribute s = (w : ℕ) × WhiteSpace s 2 w × Byte s w 0x5B

abbrev pub HashBang : List ℕ → Type 0
HashBang s = Byte s 0 0x23 × Byte s 1 0x21

-- the script goes on at `body`, after its shebang if it has one: a first line that begins with `#!` and no attribute
abbrev pub Shebang : List ℕ → Option Span → ℕ → Type 0
Shebang s (Some line) body = HashBang s × (Attribute s → ⊥) × NextLine s 0 body × (line ≡ span 0 body)
Shebang s None body = (HashBang s → Attribute s) × (body ≡ 0)

abbrev pub size : Span → ℕ
size f = f.end - f.start

-- the dashes with which the first line that is not blank begins; there may be none
pub record Opens (s : List ℕ) (shebang : Option Span) (body : ℕ) (fence : Span) : Type 0 where
  pub before : Shebang s shebang body
  pub blank : BlankLines s body fence.start
  pub dashes : Dashes s fence.start fence.end

-- a line that opens a frontmatter: three dashes or more, the info, and an LF
pub record OpeningLine (s : List ℕ) (o : Opening) : Type 0 where
  pub body : ℕ
  pub opens : Opens s o.shebang body o.fence
  pub three : 3 ≤ size o.fence
  pub line : Line s o.fence.end o.end
  pub feed : o.end < length s
  pub info_end : ℕ
  pub less_cr : LessCr s o.fence.end o.end info_end
  pub info : Text s o.fence.end info_end o.info

-- the first line after it that begins with as many dashes; they are the closing fence
pub record ClosingFence (s : List ℕ) (o : Opening) (close : Span) : Type 0 where
  pub place : ℕ
  pub first : FirstLine s (size o.fence) o.end place
  pub is : close ≡ span (place + 1) (place + 1 + size o.fence)

-- the text of the closing line after its fence, which ends at p, without blanks and line end
pub record AfterClose (s : List ℕ) (p : ℕ) (text : Option Span) : Type 0 where
  pub end : ℕ
  pub line : Line s p end
  pub text_end : ℕ
  pub less : ((end < length s) × LessCr s p end text_end) ⊎ ((end ≡ length s) × (text_end ≡ end))
  pub text_is : Text s p text_end text

-- a frontmatter that is closed, with no more dashes after its closing fence
pub record Closed (s : List ℕ) (o : Opening) (close : Span) (text : Option Span) : Type 0 where
  pub opening : OpeningLine s o
  pub closing : ClosingFence s o close
  pub as_many : Byte s close.end 0x2D → ⊥
  pub after : AfterClose s close.end text

-- what follows the closing line: the content from z on, where past blank lines the dashes of `second` stand
pub record Content (s : List ℕ) (close : Span) (z : ℕ) (second : Span) : Type 0 where
  pub next : NextLine s close.end z
  pub blank : BlankLines s z second.start
  pub dashes : Dashes s second.start second.end

-- a script without a fence
abbrev pub Plain : List ℕ → ScriptSource → Type 0
Plain s r =
    (body : ℕ) × (fence : Span) × Opens s r.shebang body fence × (fence.end ≡ fence.start)
    × (r ≡ record { shebang = r.shebang; «open» = None; info = None; frontmatter = None; close = None; content = span body (length s) })

-- a script with a frontmatter
abbrev pub Fenced : List ℕ → ScriptSource → Type 0
Fenced s r =
    (o : Opening) × (close : Span) × (z : ℕ) × (second : Span) × Closed s o close None × Content s close z second × (second.end ≡ second.start)
    × (r ≡ record { shebang = o.shebang; «open» = Some o.fence; info = o.info; frontmatter = Some (span (o.end + 1) close.start); close = Some close; content = span z (length s) })

-- the fault's spans
abbrev pub Shows : Fault → FaultKind → Span → Span → Option Span → Type 0
Shows f kind primary fence close = f ≡ record { kind = kind; primary = primary; «open» = fence; close = close }

abbrev pub at_end : List ℕ → Span
at_end s = span (length s) (length s)

-- the reason of each fault
abbrev pub Reason : List ℕ → Fault → FaultKind → Type 0
Reason s f TooFewDashes =
    (shebang : Option Span) × (body : ℕ) × (fence : Span) × Opens s shebang body fence × (0 < size fence) × (size fence < 3)
    × Shows f TooFewDashes (at_end s) fence None
Reason s f Unclosed =
    (shebang : Option Span) × (body : ℕ) × (fence : Span) × (l : ℕ) × Opens s shebang body fence × (3 ≤ size fence) × Line s fence.end l
    × ((k : ℕ) → l ≤ k → Begins s 1 k → ⊥) × Shows f Unclosed (at_end s) fence None
Reason s f FewerDashes =
    (o : Opening) × (n : ℕ) × (k : ℕ) × OpeningLine s o × (0 < n) × (n < size o.fence) × FirstLine s n o.end k
    × ((j : ℕ) → o.end ≤ j → Begins s (n + 1) j → ⊥) × Shows f FewerDashes (span (k + 1) (k + 1 + n)) o.fence None
Reason s f MoreDashes =
    (o : Opening) × (close : Span) × (e : ℕ) × OpeningLine s o × ClosingFence s o close × Dashes s close.end e × (close.end < e)
    × Shows f MoreDashes (span close.end e) o.fence None
Reason s f TextAfterClose =
    (o : Opening) × (close : Span) × (text : Span) × Closed s o close (Some text) × Shows f TextAfterClose text o.fence None
Reason s f SecondFence =
    (o : Opening) × (close : Span) × (z : ℕ) × (second : Span) × Closed s o close None × Content s close z second × (0 < size second)
    × Shows f SecondFence second o.fence (Some close)

-- the answer is right of the script
abbrev pub Reads : List ℕ → Answer → Type 0
Reads s (Ok r) = Plain s r ⊎ Fenced s r
Reads s (Err f) = Reason s f f.kind
