-- The text of an answer.
use Rattle.std.specs.Prelude.{ℕ, Bool, cond, List, [], ◌++◌, Some, None, Ok, Err, codes, decimal, Option, Result}
use Rattle.std.proofs.Math.Utf8.{encode}
use Rattle.script.specs.Admission.{number}
use Rattle.script.specs.declared.refusal.Refusal.{Refusal}
use Rattle.script.specs.declared.refusal.Refusal.TheVariants.{TooLong, NotUtf8}
use Rattle.syntax_kind.specs.Refusals.{refusal_number}
use Rattle.syntax_kind.specs.declared.Refusal.{Refusal as KindRefusal}
use Rattle.frontmatter.specs.Parsing.{letter}
use Rattle.frontmatter.specs.declared.source.Failure.{Failure}
use Rattle.frontmatter.specs.declared.source.Failure.TheVariants.{Refused, Faulty}
use Rattle.frontmatter.specs.declared.source.Fault.{Fault}
use Rattle.frontmatter.specs.declared.source.ScriptSource.{ScriptSource}
use Rattle.frontmatter.specs.declared.source.Span.{Span}
use Rattle.frontmatter.specs.Texts.{span_text}
use Rattle.answers.specs.declared.answer.Answer.{Answer}
use Rattle.answers.specs.declared.answer.Answer.TheVariants.{Frontmatter, Keywords as KeywordsA, Trivia, Malformed}
use Rattle.answers.specs.declared.answer.Keywords.{Keywords}

abbrev pub part_text : Option Span → List ℕ
part_text None = codes "-"
part_text (Some s) = span_text s

abbrev pub kind_text : Option ℕ → List ℕ
kind_text None = codes "-"
kind_text (Some kind) = decimal kind

abbrev pub close_text : Option Span → List ℕ
close_text None = []
close_text (Some s) = codes " " ++ span_text s

abbrev pub parts_text : ScriptSource → List ℕ
parts_text s =
    codes "ok shebang=" ++
    (part_text s.shebang ++
    (codes " open=" ++
    (part_text s.«open» ++
    (codes " info=" ++
    (part_text s.info ++
    (codes " frontmatter=" ++
    (part_text s.frontmatter ++
    (codes " close=" ++
    (part_text s.close ++
    (codes " content=" ++
    span_text s.content))))))))))

abbrev pub fault_text : Fault → List ℕ
fault_text f =
    codes "fault " ++
    (encode (letter f.kind) ++ (codes " " ++ (span_text f.primary ++ (codes " " ++ (span_text f.«open» ++ close_text f.close)))))

abbrev pub refused_text : ℕ → List ℕ
refused_text n = codes "refused " ++ decimal n

abbrev pub refusal_text : Refusal → List ℕ
refusal_text TooLong = refused_text (number TooLong)
refusal_text (NotUtf8 at) = codes "refused " ++ (decimal (number (NotUtf8 at)) ++ (codes " " ++ decimal at))

abbrev pub frontmatter_text : Result ScriptSource Failure → List ℕ
frontmatter_text (Ok source) = parts_text source
frontmatter_text (Err (Faulty fault)) = fault_text fault
frontmatter_text (Err (Refused why)) = refusal_text why

abbrev pub kinds_text : Keywords → List ℕ
kinds_text k = codes "keyword " ++ (kind_text k.strict ++ (codes " contextual " ++ kind_text k.contextual))

abbrev pub keywords_text : Result Keywords KindRefusal → List ℕ
keywords_text (Ok k) = kinds_text k
keywords_text (Err why) = refused_text (refusal_number why)

abbrev pub trivia_text : Result Bool KindRefusal → List ℕ
trivia_text (Ok b) = codes "trivia " ++ cond b (codes "true") (codes "false")
trivia_text (Err why) = refused_text (refusal_number why)

abbrev pub answer_text : Answer → List ℕ
answer_text (Frontmatter found) = frontmatter_text found
answer_text (KeywordsA found) = keywords_text found
answer_text (Trivia found) = trivia_text found
answer_text Malformed = codes "malformed"
