-- The sweep of a case and its report of a target, from the curves of all families' points between the held stocks and
-- the limits.
use Rattle.std.specs.Prelude.{◌≡◌, ℕ, List}
use Rattle.hull.specs.declared.point.Point.{Point}
use Rattle.spares_input.specs.Cases.{CaseRows}
use Rattle.exact_ratio.specs.declared.decimal.Decimal.{Decimal}
use Rattle.family_points.specs.Points.{ScoreEnds}
use Rattle.step_walk.specs.Prefix.{HaveShapes}
use Rattle.marginal_alloc.specs.Choice.{AreCurves}
use Rattle.fleet_plan.specs.Families.{case_points}
use Rattle.budget_sweep.specs.declared.report.SweepPoint.{SweepPoint}
use Rattle.budget_sweep.specs.declared.report.SweepReport.{SweepReport}
use Rattle.budget_sweep.specs.declared.report.TargetReport.{TargetReport}
use Rattle.budget_sweep.specs.Sweep.{IsSweep}
use Rattle.budget_sweep.specs.Target.{IsTold}

-- these are the curves of the families' points, and the states of their sweep
pub record IsSweepFor (families curves : List (List Point)) (points : List SweepPoint) : Type 0 where
  pub areas : AreCurves families curves
  pub shapes : HaveShapes curves
  pub sweep : IsSweep curves points

-- the report of a target with 4 decimals from the sweep of curves
pub record IsTargetOf (curves : List (List Point)) (target : Decimal) (report : TargetReport) : Type 0 where
  pub points : List SweepPoint
  pub sweep : IsSweep curves points
  pub target_is : report.target ≡ target
  pub places : target.places ≡ 4
  pub told : IsTold points report

-- ---- of a case

-- the report is the sweep of the case from the held stocks: the states of its families' curves
pub record IsCaseSweep (ends : ScoreEnds) (c : CaseRows) (held : List ℕ) (report : SweepReport) : Type 0 where
  pub curves : List (List Point)
  pub is_sweep : IsSweepFor (case_points ends c held) curves report.points

-- the report of the target is read off this sweep
pub record IsCaseTarget (ends : ScoreEnds) (c : CaseRows) (held : List ℕ) (target : Decimal) (report : TargetReport)
    : Type 0 where
  pub curves : List (List Point)
  pub areas : AreCurves (case_points ends c held) curves
  pub shapes : HaveShapes curves
  pub is_target : IsTargetOf curves target report
