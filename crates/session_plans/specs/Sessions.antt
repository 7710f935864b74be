-- The model of a session, and the answers of its calls.
use Rattle.std.specs.Prelude.{◌≡◌, ⊤, ℕ, ◌≤◌, Bool, true, false, List, [], length, filter, map, get_or, replicate, set, Option, Some, None, is_some, IfSome, Result, Ok, Err}
use Rattle.std.specs.List.{range_with_len}
use Rattle.std.specs.Result.{IsOk}
use Rattle.answers.specs.declared.stop.Stop.{Stop}
use Rattle.answers.specs.declared.stop.Stop.TheVariants as stop
use Rattle.case_edits.specs.Edits.{PlanDue}
use Rattle.spares_input.specs.Money.{most_budget}
use Rattle.spares_input.specs.Rows.{is_line}
use Rattle.spares_input.specs.Frames.{part_at}
use Rattle.spares_input.specs.Cases.{CaseRows, IsCase}
use Rattle.spares_input.specs.Edits.{with_rate}
use Rattle.spares_input.specs.Stocks.{StockList, IsFor}
use Rattle.spares_input.specs.declared.rows.RateRow.{RateRow}
use Rattle.fleet_model.specs.Rows.{line_units}
use Rattle.demand_rates.specs.Limits.{rate_fault_of}
use Rattle.demand_rates.specs.declared.fault.RateFault.{RateFault}
use Rattle.family_items.specs.declared.item.FamilyResult.{FamilyResult}
use Rattle.family_items.specs.Profile.{family_of}
use Rattle.hull.specs.declared.point.Point.{Point}
use Rattle.family_points.specs.Counts.{work_of}
use Rattle.family_points.specs.Local.{home_of}
use Rattle.held_work.specs.Curves.{IsFamilyCurve}
use Rattle.plan_report.specs.declared.plan.PlanReport.{PlanReport}
use Rattle.session_plans.specs.declared.evaluated.Evaluated.{Evaluated}
use Rattle.family_points.specs.Points.{plain_ends}
use Rattle.fleet_plan.specs.Families.{case_points}
use Rattle.held_plan.specs.Kept.{AreKeptParts, KeptRows}
use Rattle.session_report.specs.Reports.{IsReportOf}

-- a case, a budget, and for each family in order whether its curve is kept
pub record SessionRows : Type 0 where
  pub case : CaseRows
  pub budget : ℕ
  pub marks : List Bool

-- the index of the family of part p: the count of line units before the family's line unit
abbrev pub family_place : CaseRows → ℕ → ℕ
family_place c p = length (filter (λ q. is_line (part_at c.parts q)) (range_with_len 0 (home_of c p)))

-- the curve of family k is kept
abbrev pub has_mark : List Bool → ℕ → Bool
has_mark marks k = get_or marks k false

-- which of the values are kept
abbrev pub marks_of : {X : Type 0} → List (Option X) → List Bool
marks_of values = map is_some values

-- There is a place for each family, and a value that is kept there is the family's.
pub record AreOfFamilies {X : Type 0} (IsOf : ℕ → X → Type 0) (c : CaseRows) (values : List (Option X)) : Type 0 where
  pub count : length values ≡ length (line_units c)
  pub each : (k : ℕ) → IfSome (get_or values k None) (IsOf (get_or (line_units c) k 0))

-- a curve that is kept is the family's in this case, of its weighted backorders over all its vectors
abbrev pub AreKept : CaseRows → List (Option (List Point)) → Type 0
AreKept c curves = AreOfFamilies (IsFamilyCurve plain_ends c []) c curves

-- the evaluation of the family of line unit l at these stocks
abbrev pub IsEvaluation : CaseRows → StockList → ℕ → FamilyResult 48 → Type 0
IsEvaluation c s l family = family ≡ family_of 48 c l s

-- The stocks are for the case, and an evaluation that is kept is the family's at these stocks.
pub record AreEvaluated (c : CaseRows) (x : Evaluated) : Type 0 where
  pub is_for : IsFor c x.stocks
  pub are_kept : AreOfFamilies (IsEvaluation c x.stocks) c x.families.items

-- parts that are kept are those of the families in this case, of their weighted backorders over all their vectors
abbrev pub ArePartsKept : CaseRows → KeptRows → Type 0
ArePartsKept c parts = AreKeptParts (case_points plain_ends c []) parts

-- the invariant of every session with this case, this budget, these curves, parts of curves and evaluations
pub record IsSession (c : CaseRows) (budget : ℕ) (curves : List (Option (List Point))) (parts : KeptRows)
    (evaluated : Evaluated) : Type 0 where
  pub valid : IsCase c
  pub work : IsOk (work_of c)
  pub budget_most : budget ≤ most_budget
  pub are_kept : AreKept c curves
  pub are_parts : ArePartsKept c parts
  pub are_evaluated : AreEvaluated c evaluated

-- ---- sessions after each call

-- a session at its start: the case, the budget, and no curve kept
abbrev pub started : CaseRows → ℕ → SessionRows
started c budget = record { case = c; budget = budget; marks = replicate (length (line_units c)) false }

-- the session under another budget
abbrev pub with_budget : SessionRows → ℕ → SessionRows
with_budget s budget = record s { budget = budget }

-- the session after the row replaces its pair's row: the mark of its part's family is off
abbrev pub with_row : SessionRows → RateRow → SessionRows
with_row s r = record s { case = with_rate s.case r; marks = set s.marks (family_place s.case r.part.0) false }

-- there is the same count of marks, and each mark that was on is on
pub record AreLater (before after : List Bool) : Type 0 where
  pub count : length after ≡ length before
  pub stay : (k : ℕ) → has_mark before k ≡ true → has_mark after k ≡ true

-- and case and budget are the same
pub record IsLater (before after : SessionRows) : Type 0 where
  pub case_is : after.case ≡ before.case
  pub budget_is : after.budget ≡ before.budget
  pub marks : AreLater before.marks after.marks

-- ---- the answers of a plan

-- a plan of the session as it is
abbrev pub due : SessionRows → PlanDue
due s = record { case = s.case; budget = s.budget }

-- a report comes if the rates break no rule, and a fault is the first rule that they break
abbrev pub AnswersPlan : PlanDue → Result PlanReport (Stop RateFault) → Type 0
AnswersPlan d (Ok report) = IsReportOf d report
AnswersPlan d (Err stop.NoMemory) = ⊤
AnswersPlan d (Err (stop.Fault f)) = rate_fault_of d.case ≡ Some f
