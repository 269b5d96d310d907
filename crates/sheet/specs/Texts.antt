-- The text of a report.
use Rattle.std.specs.Prelude.{ℕ, List, [], ◌++◌, Some, None, Ok, Err, codes, decimal, Option, Result}
use Rattle.std.proofs.Math.Utf8.{encode}
use Rattle.script.specs.Admission.{number, refusal_text as reason}
use Rattle.script.specs.declared.refusal.Refusal.{Refusal}
use Rattle.frontmatter.specs.Parsing.{letter}
use Rattle.frontmatter.specs.declared.source.Failure.{Failure}
use Rattle.frontmatter.specs.declared.source.Failure.TheVariants.{Refused, Faulty}
use Rattle.frontmatter.specs.declared.source.Fault.{Fault}
use Rattle.frontmatter.specs.declared.source.ScriptSource.{ScriptSource}
use Rattle.frontmatter.specs.declared.source.Span.{Span}
use Rattle.frontmatter.specs.Texts.{span_text, meaning_of}

-- a part that may be missing
abbrev pub part_text : Option Span → List ℕ
part_text None = codes "none"
part_text (Some s) = span_text s

-- a line of its own, where there is a closing fence to show
abbrev pub close_line : Option Span → List ℕ
close_line None = []
close_line (Some s) = codes "\nclose        " ++ span_text s

abbrev pub parts_text : ScriptSource → List ℕ
parts_text s =
    codes "shebang      " ++
    (part_text s.shebang ++
    (codes "\nfence        " ++
    (part_text s.«open» ++
    (codes "\ninfo         " ++
    (part_text s.info ++
    (codes "\nfrontmatter  " ++
    (part_text s.frontmatter ++
    (codes "\nclose        " ++
    (part_text s.close ++
    (codes "\ncontent      " ++
    span_text s.content))))))))))

abbrev pub fault_text : Fault → List ℕ
fault_text f =
    codes "fault        " ++
    (encode (letter f.kind) ++
    (codes ": " ++
    (meaning_of f.kind ++
    (codes "\nat           " ++
    (span_text f.primary ++
    (codes "\nfence        " ++
    (span_text f.«open» ++
    close_line f.close)))))))

abbrev pub refusal_text : Refusal → List ℕ
refusal_text why = codes "refused      " ++ (decimal (number why) ++ (codes ": " ++ reason why))

abbrev pub found_text : Result ScriptSource Failure → List ℕ
found_text (Ok source) = parts_text source
found_text (Err (Faulty fault)) = fault_text fault
found_text (Err (Refused why)) = refusal_text why

-- the whole report, without the line break that ends it
abbrev pub report_text : ℕ → Result ScriptSource Failure → List ℕ
report_text len found = codes "script       " ++ (decimal len ++ (codes " bytes\n" ++ found_text found))
