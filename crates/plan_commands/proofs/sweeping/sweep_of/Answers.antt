use Rattle.std.proofs.Common.{sym, subst, List}
use Rattle.fleet_plan.specs.Families.{case_points}
use Rattle.hull.specs.declared.point.Point.{Point}
use Rattle.marginal_alloc.specs.Choice.{AreCurves}
use Rattle.plan_commands.proofs.sweeping.sweep_of.Goals as goal
use Rattle.family_points.specs.Points.{plain_ends}
use Rattle.spares_input.specs.Stocks.{nothing_held}

pub returns-clause-sweep : goal.returns-clause-sweep
returns-clause-sweep c =
    c.sweep.ensures.case plain_ends c.args.given.now.case (nothing_held c.args.given.now.case).list
    (subst (λ (curves : List (List Point)). AreCurves (case_points plain_ends c.args.given.now.case (nothing_held c.args.given.now.case).list) curves)
    (sym c.as_slice.ensures.value) c.in_ok-curves.ensures.curves)
