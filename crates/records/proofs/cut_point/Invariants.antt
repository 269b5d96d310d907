use Rattle.std.proofs.Common.{◌≡◌, ◌-◌, ◌≤◌, map, length}
use Rattle.records.specs.Cuts.{halves, bisect}
use Rattle.records.proofs.cut_point.Given as goal

-- the search between the two places ends where the whole search does
abbrev pub invariant-loop-low : goal.invariant-loop-low
invariant-loop-low g l =
    let before = g.P.Probe.before l.probe in
    record {
      ordered : l.low ≤ l.high;
      within : l.high ≤ length l.records;
      ends : halves l.high (map before l.records) l.low l.high ≡ bisect before l.records;
    }

abbrev pub decreases-loop-low : goal.decreases-loop-low
decreases-loop-low g l = l.high - l.low
