use Rattle.std.proofs.Common.{length, sym, ◌∙◌, arith}
use Rattle.frontmatter.specs.Lines.{closes_at}
use Rattle.frontmatter.proofs.Searched.{first_here, first_later}
use Rattle.frontmatter.proofs.Closing.{trial_none, trial_some, too_many}
use Rattle.frontmatter.proofs.reader.Reader.trial.Goals as goal

pub returns-then-most-dashes-clause-value : goal.returns-then-most-dashes-clause-value
returns-then-most-dashes-clause-value c =
    let s = c.args.self.now.bytes.now in
    let p = c.args.self.now.at in
    trial_none s c.args.dashes p (too_many s c.args.dashes p c.args.most c.if-most-dashes.true c.requires)

pub returns-then-closes-clause-value : goal.returns-then-closes-clause-value
returns-then-closes-clause-value c =
    let s = c.args.self.now.bytes.now in
    let p = c.args.self.now.at in
    let k = c.loop-trial.trial.at.now in
    trial_some s c.args.dashes p k (sym (first_here (closes_at s c.args.dashes) k (length s) (omega arith) (sym c.if-closes.ensures)) ∙ c.loop-trial.invariant) (omega arith)

pub loop-trial-preserved : goal.loop-trial-preserved
loop-trial-preserved c =
    let s = c.args.self.now.bytes.now in
    let k = c.loop-trial.trial.at.now in
    sym (first_later (closes_at s c.args.dashes) k (length s) (omega arith) (sym c.if-closes.ensures)) ∙ c.loop-trial.invariant
