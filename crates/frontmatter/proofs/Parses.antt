-- The answer for any bytes is the one that the relation allows. Assumes nothing.
use Rattle.std.proofs.Common.{◌≡◌, ℕ, List, Some, None, Ok, Err, Option, Result, sym, refl, ap, ◌∙◌, subst}
use Rattle.script.specs.Admission.{refusal, Judged}
use Rattle.script.specs.declared.refusal.Refusal.{Refusal}
use Rattle.script.proofs.Judges.{judged, judged_only}
use Rattle.frontmatter.specs.declared.source.ScriptSource.{ScriptSource}
use Rattle.frontmatter.specs.declared.source.Failure.{Failure}
use Rattle.frontmatter.specs.declared.source.Failure.TheVariants.{Refused, Faulty}
use Rattle.frontmatter.specs.Parsed.{Answer, parsed}
use Rattle.frontmatter.specs.Reads.{Reads}
use Rattle.frontmatter.specs.Parsing.{read, answer, parsing, Parses}
use Rattle.frontmatter.proofs.Right.{sound, only}

read_parses : (bs : List ℕ) (a : Answer) → Judged bs None → Reads bs a → Parses bs (read a)
read_parses bs (Ok r) j d = (j, d)
read_parses bs (Err f) j d = (j, d)

answer_parses : (bs : List ℕ) (o : Option Refusal) → Judged bs o → Parses bs (answer o bs)
answer_parses bs (Some why) j = j
answer_parses bs None j = read_parses bs (parsed bs) j (sound bs)

pub parses : (bs : List ℕ) (a : Result ScriptSource Failure) → a ≡ parsing bs → Parses bs a
parses bs a e = subst (Parses bs) (sym e) (answer_parses bs (refusal bs) (judged bs (refusal bs) refl))

pub parses_only : (bs : List ℕ) (a : Result ScriptSource Failure) → Parses bs a → a ≡ parsing bs
parses_only bs (Ok r) d = ap read (only bs (Ok r) d.1) ∙ ap (λ o. answer o bs) (judged_only bs None d.0)
parses_only bs (Err (Refused why)) d = ap (λ o. answer o bs) (judged_only bs (Some why) d)
parses_only bs (Err (Faulty f)) d = ap read (only bs (Err f) d.1) ∙ ap (λ o. answer o bs) (judged_only bs None d.0)
