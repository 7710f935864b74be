use Rattle.std.proofs.Common.{◌-◌, ◌≤◌, take}
use Rattle.std.specs.List.{AllZip}
use Rattle.fleet_model.specs.Rows.{line_units}
use Rattle.held_work.specs.Curves.{IsFamilyCurve}
use Rattle.held_plan.proofs.curves.whole_curves.Given as goal

abbrev pub invariant-loop-from : goal.invariant-loop-from
invariant-loop-from g l = record {
  within : l.from ≤ l.count;
  curves : AllZip (IsFamilyCurve g.S.Score.ends l.fn.families.case l.fn.families.held.list) (take l.from (line_units l.fn.families.case)) l.curves.items;
}

abbrev pub decreases-loop-from : goal.decreases-loop-from
decreases-loop-from g l = l.count - l.from
