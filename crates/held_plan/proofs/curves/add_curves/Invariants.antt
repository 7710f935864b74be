use Rattle.std.proofs.Common.{◌+◌, take}
use Rattle.std.specs.List.{AllZip}
use Rattle.fleet_model.specs.Rows.{line_units}
use Rattle.held_work.specs.Curves.{IsFamilyCurve}
use Rattle.held_plan.proofs.curves.add_curves.Given as goal

abbrev pub invariant-loop-k : goal.invariant-loop-k
invariant-loop-k g l =
    AllZip (IsFamilyCurve g.S.Score.ends l.fn.families.case l.fn.families.held.list) (take (l.fn.from + l.k) (line_units l.fn.families.case)) l.curves.items
