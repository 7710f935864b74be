-- The truth of a sweep and a target for a case, in the words of its model. Costs are in whole money and count the
-- stocks above the held ones. Each statement about an aim holds at every depth from 1024 on.
use Rattle.std.specs.Prelude.{◌≡◌, ℕ, ◌≤◌, List, IfSome, MatchOption}
use Rattle.exact_model.specs.Fraction.{Fraction, ◌≤ℚ◌, Encloses}
use Rattle.fixed_interval.specs.Ends.{Ends}
use Rattle.fixed_interval.specs.Text.{text_value}
use Rattle.spares_input.specs.Cases.{CaseRows}
use Rattle.fleet_model.specs.Aims.{Value, aim, IsHeldAllocation, cost_beyond}
use Rattle.fleet_model.specs.Bounds.{NoneHasLess}
use Rattle.plan_report.specs.Texts.{lower_millionths, upper_millionths}
use Rattle.budget_sweep.specs.declared.report.SweepPoint.{SweepPoint}
use Rattle.budget_sweep.specs.declared.report.TargetReport.{TargetReport}

-- both ends of a point
abbrev pub ends_of : SweepPoint → Ends
ends_of point = record { lo = point.lo; hi = point.hi }

-- the printed number of its lower end
abbrev pub printed_lo : SweepPoint → Fraction
printed_lo point = text_value 6 (lower_millionths 48 (ends_of point))

-- the printed number of its upper end
abbrev pub printed_hi : SweepPoint → Fraction
printed_hi point = text_value 6 (upper_millionths 48 (ends_of point))

-- ---- points

-- stocks with the cost of the point, and with an aim between its ends and between the printed ends
pub record StandBehind (value : Value) (c : CaseRows) (held : List ℕ) (point : SweepPoint) (s : List ℕ) : Type 0 where
  pub allocation : IsHeldAllocation c held s
  pub cost_is : cost_beyond c held s ≡ point.cost
  pub within : Encloses 48 point.lo point.hi (aim value c s)
  pub printed : (n : ℕ) → 1024 ≤ n → (printed_lo point ≤ℚ aim value c s n) × (aim value c s n ≤ℚ printed_hi point)

-- there are such stocks, and none that cost at most as much have an aim below the lower end or the printed lower end
pub record IsTruePoint (value : Value) (c : CaseRows) (held : List ℕ) (point : SweepPoint) : Type 0 where
  pub stocks : List ℕ
  pub stand_behind : StandBehind value c held point stocks
  pub none_less : NoneHasLess value c held point.cost point.lo
  pub printed : (n : ℕ) → 1024 ≤ n → (s : List ℕ) → IsHeldAllocation c held s → cost_beyond c held s ≤ point.cost
      → printed_lo point ≤ℚ aim value c s n

-- ---- targets

-- the printed target, which is the target itself
abbrev pub target_value : ℕ → Fraction
target_value target = text_value 4 target

-- such stocks for the point, with an aim of at most the target
pub record Reaches (value : Value) (c : CaseRows) (held : List ℕ) (target : ℕ) (point : SweepPoint) : Type 0 where
  pub stocks : List ℕ
  pub stand_behind : StandBehind value c held point stocks
  pub reach : (n : ℕ) → 1024 ≤ n → aim value c stocks n ≤ℚ target_value target

-- all stocks that reach the target at some depth cost at least this
abbrev pub AllCost : Value → CaseRows → List ℕ → ℕ → ℕ → Type 0
AllCost value c held target least =
    (n : ℕ) → 1024 ≤ n → (s : List ℕ) → IsHeldAllocation c held s → aim value c s n ≤ℚ target_value target
    → least ≤ cost_beyond c held s

-- no stocks reach the target at any depth
abbrev pub NoneReaches : Value → CaseRows → List ℕ → ℕ → Type 0
NoneReaches value c held target =
    (n : ℕ) → 1024 ≤ n → (s : List ℕ) → IsHeldAllocation c held s → aim value c s n ≤ℚ target_value target → ⊥

-- The report of a target is true of the case.
pub record IsTrueTarget (value : Value) (c : CaseRows) (held : List ℕ) (report : TargetReport) : Type 0 where
  pub reach : IfSome report.reach (Reaches value c held report.target.units)
  pub at_least : MatchOption report.at_least
      (NoneReaches value c held report.target.units) (AllCost value c held report.target.units)
