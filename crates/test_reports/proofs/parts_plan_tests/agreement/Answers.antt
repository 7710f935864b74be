use Rattle.std.proofs.Common.{List, sym, subst}
use Rattle.hull.specs.declared.point.Point.{Point}
use Rattle.family_points.specs.Points.{plain_ends}
use Rattle.case_plan.specs.Report.{AreFamilyCurves}
use Rattle.case_plan.proofs.Public.{are_family_curves}
use Rattle.test_reports.proofs.parts_plan_tests.agreement.Goals as goal

pub plan-requires-clause-curves : goal.plan-requires-clause-curves
plan-requires-clause-curves c =
    subst (λ (z : List (List Point)). AreFamilyCurves c.in_ok-case.case z) (sym c.as_slice.ensures.value)
    (are_family_curves plain_ends c.in_ok-case.case c.in_ok-held.held.list c.in_ok-curves.curves.items c.in_ok-curves.ensures)
