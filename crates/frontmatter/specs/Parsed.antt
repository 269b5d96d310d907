-- What a script's frontmatter is, rule by rule. Places are byte places.
use Rattle.std.specs.Prelude.{ℕ, ◌+◌, ◌-◌, Bool, cond, not, ◌&&◌, List, length, Some, None, Ok, Err, Option, Result, ◌==◌, nat_lt, slice_index}
use Rattle.script.specs.Sequences.{run_end}
use Rattle.script.specs.WhiteTable.{white}
use Rattle.frontmatter.specs.declared.reader.Close.{Close}
use Rattle.frontmatter.specs.declared.parse.Opening.{Opening}
use Rattle.frontmatter.specs.declared.source.Span.{Span}
use Rattle.frontmatter.specs.declared.source.ScriptSource.{ScriptSource}
use Rattle.frontmatter.specs.declared.source.FaultKind.{FaultKind}
use Rattle.frontmatter.specs.declared.source.FaultKind.TheVariants.{TooFewDashes, Unclosed, FewerDashes, MoreDashes, TextAfterClose, SecondFence}
use Rattle.frontmatter.specs.declared.source.Fault.{Fault}
use Rattle.frontmatter.specs.Searches.{first, past_last}
use Rattle.frontmatter.specs.Lines.{not_blank, at, line_end, next_line, dash_end, blank_end, without_cr}
use Rattle.frontmatter.specs.Closes.{close_of}

abbrev pub Answer : Type 0
Answer = Result ScriptSource Fault

abbrev pub span : ℕ → ℕ → Span
span a b = record { start = a; end = b }

abbrev pub fault : FaultKind → Span → Span → Option Span → Answer
fault kind primary fence close = Err (record { kind = kind; primary = primary; «open» = fence; close = close })

-- a shebang: `#!` at the start, with no `[` past the white space after it
abbrev pub is_shebang : List ℕ → Bool
is_shebang s = (nat_lt 1 (length s) && (slice_index s 0 == 0x23 && slice_index s 1 == 0x21)) && not (slice_index s (run_end white s 2) == 0x5B)

abbrev pub shebang : List ℕ → Option Span
shebang s = cond (is_shebang s) (Some (span 0 (next_line s 0))) None

-- where the script goes on after its shebang
abbrev pub body_start : List ℕ → ℕ
body_start s = cond (is_shebang s) (next_line s 0) 0

-- the text from p up to e without blanks at both ends, if any is left
abbrev pub text : List ℕ → ℕ → ℕ → Option Span
text s p e = cond (nat_lt (first (at not_blank s) p e) (past_last (at not_blank s) p e)) (Some (span (first (at not_blank s) p e) (past_last (at not_blank s) p e))) None

-- a script without a fence
abbrev pub plain : List ℕ → Option Span → ℕ → Answer
plain s shebang body = Ok (record { shebang = shebang; «open» = None; info = None; frontmatter = None; close = None; content = span body (length s) })

abbrev pub unclosed : List ℕ → Span → Answer
unclosed s fence = fault Unclosed (span (length s) (length s)) fence None

-- a script with a frontmatter, and with its content from z on
abbrev pub fenced : List ℕ → Opening → Span → ℕ → Answer
fenced s o close z = Ok (record { shebang = o.shebang; «open» = Some o.fence; info = o.info; frontmatter = Some (span (o.end + 1) close.start); close = Some close; content = span z (length s) })

-- past the blank lines of the content, dashes open a second fence
abbrev pub content : List ℕ → Opening → Span → ℕ → Answer
content s o close z =
    cond (nat_lt (blank_end s z) (dash_end s (blank_end s z))) (fault SecondFence (span (blank_end s z) (dash_end s (blank_end s z))) o.fence (Some close))
    (fenced s o close z)

-- the text of the closing line after its fence, which ends at p; the line ends with LF or CR LF, or with the script
abbrev pub close_text : List ℕ → ℕ → Option Span
close_text s p = text s p (cond (nat_lt (line_end s p) (length s)) (without_cr s p (line_end s p)) (line_end s p))

abbrev pub close_line : List ℕ → Opening → Span → Option Span → Answer
close_line s o close (Some t) = fault TextAfterClose t o.fence None
close_line s o close None = content s o close (next_line s close.end)

-- a closing fence with as many dashes as the opening one
abbrev pub closed : List ℕ → Opening → Span → Answer
closed s o close =
    cond (nat_lt close.end (dash_end s close.end)) (fault MoreDashes (span close.end (dash_end s close.end)) o.fence None)
    (close_line s o close (close_text s close.end))

-- the closing fence that was found, if any
abbrev pub closing : List ℕ → Opening → Option Close → Answer
closing s o None = unclosed s o.fence
closing s o (Some c) =
    cond (nat_lt c.dashes (o.fence.end - o.fence.start)) (fault FewerDashes (span (c.at + 1) (c.at + 1 + c.dashes)) o.fence None)
    (closed s o (span (c.at + 1) (c.at + 1 + c.dashes)))

-- the line that the opening fence begins, with its LF at l
abbrev pub opening_line : List ℕ → Option Span → Span → ℕ → Opening
opening_line s shebang fence l = record { shebang = shebang; fence = fence; info = text s fence.end (without_cr s fence.end l); end = l }

-- an opening fence of three dashes or more
abbrev pub opened : List ℕ → Option Span → Span → Answer
opened s shebang fence =
    cond (nat_lt (line_end s fence.end) (length s))
    (closing s (opening_line s shebang fence (line_end s fence.end)) (close_of s (line_end s fence.end) (fence.end - fence.start)))
    (unclosed s fence)

-- the dashes that the first line that is not blank begins with; the body begins after the shebang
abbrev pub opening : List ℕ → Option Span → ℕ → Span → Answer
opening s shebang body fence =
    cond (fence.end - fence.start == 0) (plain s shebang body)
    (cond (nat_lt (fence.end - fence.start) 3) (fault TooFewDashes (span (length s) (length s)) fence None) (opened s shebang fence))

abbrev pub parsed : List ℕ → Answer
parsed s = opening s (shebang s) (body_start s) (span (blank_end s (body_start s)) (dash_end s (blank_end s (body_start s))))
