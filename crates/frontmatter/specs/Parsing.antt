-- The answer for any bytes: refused where they are no script, else read.
use Rattle.std.specs.Prelude.{ℕ, List, Some, None, Ok, Err, Option, Result}
use Rattle.script.specs.Admission.{refusal, Judged}
use Rattle.script.specs.declared.refusal.Refusal.{Refusal}
use Rattle.frontmatter.specs.declared.source.ScriptSource.{ScriptSource}
use Rattle.frontmatter.specs.declared.source.FaultKind.{FaultKind}
use Rattle.frontmatter.specs.declared.source.FaultKind.TheVariants.{TooFewDashes, Unclosed, FewerDashes, MoreDashes, TextAfterClose, SecondFence}
use Rattle.frontmatter.specs.declared.source.Failure.{Failure}
use Rattle.frontmatter.specs.declared.source.Failure.TheVariants.{Refused, Faulty}
use Rattle.frontmatter.specs.Parsed.{Answer, parsed}
use Rattle.frontmatter.specs.Reads.{Reads}
use Rattle.frontmatter.specs.Placed.{Placed}

abbrev pub read : Answer → Result ScriptSource Failure
read (Ok source) = Ok source
read (Err f) = Err (Faulty f)

abbrev pub answer : Option Refusal → List ℕ → Result ScriptSource Failure
answer (Some why) bs = Err (Refused why)
answer None bs = read (parsed bs)

abbrev pub parsing : List ℕ → Result ScriptSource Failure
parsing bs = answer (refusal bs) bs

-- the letter of each fault, by its code
abbrev pub letter : FaultKind → ℕ
letter TooFewDashes = 0x41
letter Unclosed = 0x42
letter FewerDashes = 0x43
letter MoreDashes = 0x44
letter TextAfterClose = 0x45
letter SecondFence = 0x46

-- the answer is right of the bytes: refused where they are no script, else as the relation has it
abbrev pub Parses : List ℕ → Result ScriptSource Failure → Type 0
Parses bs (Ok source) = Judged bs None × Reads bs (Ok source)
Parses bs (Err (Refused why)) = Judged bs (Some why)
Parses bs (Err (Faulty f)) = Judged bs None × Reads bs (Err f)

-- an answer for a script has its spans in their places
abbrev pub PlacedIn : List ℕ → Result ScriptSource Failure → Type 0
PlacedIn bs (Ok source) = Placed bs (Ok source)
PlacedIn bs (Err (Refused why)) = Unit {0}
PlacedIn bs (Err (Faulty f)) = Placed bs (Err f)
