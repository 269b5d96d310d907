use Rattle.std.proofs.Common.{subst}
use Rattle.std.specs.Fmt.{DisplaysOnOk}
use Rattle.answers.proofs.Texts.{kinds_output}
use Rattle.answers.proofs.text.KeywordsDisplay.fmt.Goals as goal

pub returns-clause-writes : goal.returns-clause-writes
returns-clause-writes g c = subst (λ out. DisplaysOnOk g.W.Write.write_str_gives c.args.f.now c.write.result out c.write.new.self) (kinds_output c.args.self.now) c.write.ensures.writes
