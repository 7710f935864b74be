use Rattle.std.proofs.Common.{◌-◌, ◌≤◌}
use Rattle.series_bounds.specs.Ratios.{AreRatios}
use Rattle.series_bounds.specs.Walk.{AtIndex}
use Rattle.series_bounds.proofs.walk.rise_on.Given as goal

abbrev pub invariant-loop-walked : goal.invariant-loop-walked
invariant-loop-walked g l = record {
  at : AtIndex g.row.F l.mean l.excess l.walked.sum l.walked.last l.walked.next;
  ratios : AreRatios g.row.F l.mean l.excess l.walked.next l.ratios;
  within : l.walked.next ≤ 63;
  onward : l.initial.walked.next ≤ l.walked.next;
}

abbrev pub decreases-loop-walked : goal.decreases-loop-walked
decreases-loop-walked g l = 63 - l.walked.next
