use Rattle.std.proofs.Common.{◌∙◌}
use Rattle.frontmatter.proofs.Closing.{found_then, not_yet, close_within}
use Rattle.frontmatter.proofs.reader.Reader.find_close.Goals as goal

pub returns-in-Some : goal.returns-in-Some
returns-in-Some c =
    let was = c.args.self.now in
    let now = c.loop-n.self in
    let inv = c.loop-n.invariant in
    let trial = c.in-Some.ensures in
    let found = found_then was.bytes.now now.bytes.now was.at now.at c.loop-n.n c.args.dashes inv.0 inv.1 inv.2 c.loop-n-test.true c.in-Some.at trial.value in
    record {
      value = found;
      within = close_within was.bytes.now was.at c.args.dashes (record { at = c.in-Some.at; dashes = c.loop-n.n }) was.within found;
      after = trial.after ∙ inv.0;
      bytes = trial.bytes ∙ inv.1;
    }

pub loop-n-preserved : goal.loop-n-preserved
loop-n-preserved c =
    let was = c.args.self.now in
    let now = c.loop-n.self in
    let inv = c.loop-n.invariant in
    let trial = c.in_default.ensures in
    not_yet was.bytes.now now.bytes.now was.at now.at c.loop-n.n c.args.dashes inv.0 inv.1 inv.2 c.loop-n-test.true
    c.trial.new.self.bytes.now c.trial.new.self.at trial.after trial.bytes trial.value
