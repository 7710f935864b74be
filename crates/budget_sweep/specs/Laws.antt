-- The statements of the laws of sweeps and targets.
use Rattle.std.specs.Prelude.{◌≡◌, ℕ, ◌<◌, List, length}
use Rattle.hull.specs.declared.point.Point.{Point}
use Rattle.hull.specs.Scores.{EnclosesValue}
use Rattle.spares_input.specs.Cases.{CaseRows}
use Rattle.exact_ratio.specs.declared.decimal.Decimal.{Decimal}
use Rattle.fleet_model.specs.Aims.{Value}
use Rattle.family_points.specs.Points.{ScoreEnds}
use Rattle.step_walk.specs.Prefix.{HaveShapes}
use Rattle.marginal_alloc.specs.declared.allocation.Chosen.{Chosen}
use Rattle.marginal_alloc.specs.Choice.{IsHullChoice}
use Rattle.fleet_plan.specs.Laws.{IsAcceptedCase}
use Rattle.budget_sweep.specs.declared.report.SweepPoint.{SweepPoint}
use Rattle.budget_sweep.specs.declared.report.SweepReport.{SweepReport}
use Rattle.budget_sweep.specs.declared.report.TargetReport.{TargetReport}
use Rattle.budget_sweep.specs.Sweep.{IsSweep, state_at}
use Rattle.budget_sweep.specs.Choices.{IsChoiceAt, IsStateOf}
use Rattle.budget_sweep.specs.Cases.{IsCaseSweep, IsCaseTarget}
use Rattle.budget_sweep.specs.Truth.{IsTruePoint, IsTrueTarget}

-- ---- cases, for every score whose intervals enclose its value, and for held stocks

-- each point of a case's sweep is true: some stocks have its cost and an aim between its ends, and none as cheap have
-- less
abbrev pub SweepsAreTrue : Type 0
SweepsAreTrue =
    (ends : ScoreEnds) (value : Value) (c : CaseRows) (held : List ℕ) (report : SweepReport) (k : ℕ)
    → IsAcceptedCase c → EnclosesValue ends value → IsCaseSweep ends c held report → k < length report.points
    → IsTruePoint value c held (state_at report.points k)

-- the report of a target is true of the case
abbrev pub TargetsAreTrue : Type 0
TargetsAreTrue =
    (ends : ScoreEnds) (value : Value) (c : CaseRows) (held : List ℕ) (target : Decimal) (report : TargetReport)
    → IsAcceptedCase c → EnclosesValue ends value → IsCaseTarget ends c held target report
    → IsTrueTarget value c held report

-- a case has exactly one sweep
abbrev pub SweepsAreOne : Type 0
SweepsAreOne =
    (ends : ScoreEnds) (c : CaseRows) (held : List ℕ) (one other : SweepReport)
    → IsCaseSweep ends c held one → IsCaseSweep ends c held other → one ≡ other

-- a case has exactly one report of a target
abbrev pub TargetsAreOne : Type 0
TargetsAreOne =
    (ends : ScoreEnds) (c : CaseRows) (held : List ℕ) (target : Decimal) (one other : TargetReport)
    → IsCaseTarget ends c held target one → IsCaseTarget ends c held target other → one ≡ other

-- ---- states and hull choices

-- each state is a hull choice
abbrev pub StatesAreChoices : Type 0
StatesAreChoices =
    (curves : List (List Point)) (points : List SweepPoint) (k : ℕ)
    → HaveShapes curves → IsSweep curves points → k < length points → IsChoiceAt curves (state_at points k)

-- and the hull choice under any budget is a state
abbrev pub ChoicesAreStates : Type 0
ChoicesAreStates =
    (curves : List (List Point)) (points : List SweepPoint) (budget : ℕ) (chosen : Chosen)
    → IsSweep curves points → IsHullChoice curves budget chosen → IsStateOf curves points chosen
