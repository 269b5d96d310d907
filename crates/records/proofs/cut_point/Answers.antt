use Rattle.std.proofs.Common.{◌<◌, true, false, map, length, sym, subst, arith}
use Rattle.records.specs.Cuts.{middle, Cuts}
use Rattle.records.proofs.Halves.{up, down, done, cuts, answer_at}
use Rattle.records.proofs.cut_point.Goals as goal

pub loop-low-preserved-then-is_before : goal.loop-low-preserved-then-is_before
loop-low-preserved-then-is_before g c =
    let before = g.P.Probe.before c.args.probe.now in
    let rs = c.args.records.now in
    let inside : middle c.loop-low.low c.loop-low.high < length rs = omega arith in
    let here = answer_at before rs _ _ true inside c.index-records-mid.is c.if-is_before.ensures in
    record {
      ordered = omega arith;
      within = omega arith;
      ends = up (map before rs) _ _ _ c.loop-low-test.true here c.loop-low.invariant.ends;
    }

pub loop-low-preserved : goal.loop-low-preserved
loop-low-preserved g c =
    let before = g.P.Probe.before c.args.probe.now in
    let rs = c.args.records.now in
    let inside : middle c.loop-low.low c.loop-low.high < length rs = omega arith in
    let here = answer_at before rs _ _ false inside c.index-records-mid.is c.if-is_before.ensures in
    record {
      ordered = omega arith;
      within = omega arith;
      ends = down (map before rs) _ _ _ c.loop-low-test.true here c.loop-low.invariant.ends;
    }

pub returns : goal.returns
returns g c =
    let before = g.P.Probe.before c.args.probe.now in
    let rs = c.args.records.now in
    let value = done (map before rs) _ _ _ c.loop-low-test.false c.loop-low.invariant.ends in
    record { value = value; cuts = λ parted. subst (Cuts (map before rs)) (sym value) (cuts before rs parted) }
