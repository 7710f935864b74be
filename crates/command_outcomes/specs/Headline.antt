-- The headline: each report is true in the words of the model.
use Rattle.std.specs.List.{AllZip}
use Rattle.std.specs.Prelude.{◌≡◌, ℕ, ◌+◌, ◌≤◌, ◌<◌, List, length, Option, Some, None, Ok, option_map}
use Rattle.exact_model.specs.Fraction.{Fraction, Encloses, ◌≤ℚ◌}
use Rattle.exact_model.specs.Series.{ebo, vbo}
use Rattle.fixed_interval.specs.Ends.{Ends}
use Rattle.fixed_interval.specs.Text.{text_value}
use Rattle.fleet_model.specs.Rows.{ten_thousandths}
use Rattle.fleet_model.specs.Fleet.{IsAllocation, cost, case_total}
use Rattle.fleet_model.specs.Aims.{Value, aim, cost_beyond, weighted_backorders}
use Rattle.exact_ratio.specs.declared.decimal.Decimal.{Decimal}
use Rattle.budget_sweep.specs.Sweep.{state_at}
use Rattle.budget_sweep.specs.Truth.{IsTruePoint, IsTrueTarget}
use Rattle.budget_sweep.specs.declared.report.SweepReport.{SweepReport}
use Rattle.budget_sweep.specs.declared.report.TargetReport.{TargetReport}
use Rattle.case_edits.specs.Edits.{PlanDue}
use Rattle.case_figures.specs.Shows.{ShowsFigures, ShowsSpan}
use Rattle.case_figures.specs.Spans.{ends, places}
use Rattle.case_figures.specs.declared.figures.Span.{Span}
use Rattle.case_maker.specs.Demonstration.{made}
use Rattle.case_plan.specs.Truth.{IsTruePlanReport, IsTrueReport, NoneHasLessThanPrinted}
use Rattle.certified_plan.specs.Accepted.{case_claims_of}
use Rattle.certified_plan.specs.Laws.{NoCertificateShowsMore}
use Rattle.gap_rules.specs.Scores.{ends_of, value_of}
use Rattle.demo_accepts.specs.Demonstrations.{budget_of, demo_certificate, summary_of}
use Rattle.fleet_plan.specs.Laws.{IsAcceptedCase}
use Rattle.fleet_plan.specs.Plans.{ArePlainClaims, AreTrueClaims, CasePlan, IsPlainPlan}
use Rattle.gap_rules.specs.Refusals.{reject_of}
use Rattle.metric_compare.specs.Shows.{ShowsComparison}
use Rattle.metric_compare.specs.declared.report.CompareReport.{CompareReport}
use Rattle.plan_report.specs.Texts.{lower_millionths, millionths_down, millionths_up, upper_millionths}
use Rattle.plan_report.specs.declared.check.CheckReport.{CheckReport}
use Rattle.plan_report.specs.declared.eval.EvalReport.{EvalReport}
use Rattle.plan_report.specs.declared.plan.PlanReport.{PlanReport}
use Rattle.plan_report.specs.declared.single.SingleReport.{SingleReport}
use Rattle.plan_report.specs.declared.summary.Summary.{Summary}
use Rattle.price_certificate.specs.Certificates.{certificate_limit}
use Rattle.price_certificate.specs.declared.certificate.Objective.TheVariants.{Backorders}
use Rattle.spares_input.specs.Cases.{CaseRows}
use Rattle.spares_input.specs.Stocks.{StockList, nothing_held}
use Rattle.command_outcomes.specs.Checks.{check_of, claimed_of}
use Rattle.command_outcomes.specs.Held.{held_in}
use Rattle.command_outcomes.specs.Plans.{Planning, certificate_text, held_stocks_of, plan_certificate, plan_request}
use Rattle.command_outcomes.specs.Task.{Task, confirm, demonstrate, evaluate, make_plan, plan_in_turn, price_target, set_beside, show_pipeline, sweep_budgets}
use Rattle.command_outcomes.specs.declared.checking.Claim.{Claim}
use Rattle.command_outcomes.specs.declared.done.Done.{Done}
use Rattle.command_outcomes.specs.declared.done.Done.TheVariants.{Single, Evaluated, Planned, Checked, Demo, Swept, Targeted, Session, Compared}
use Rattle.command_outcomes.specs.declared.done.TaskOutcome.{TaskOutcome}
use Rattle.command_outcomes.specs.declared.done.Written.{Written}
use Rattle.family_points.specs.Points.{plain_ends}
use Rattle.case_plan.specs.Report.{plain_request}

-- ---- a single pipeline

-- the value of the printed lower end of an interval, rounded down
abbrev pub printed_low : Ends → Fraction
printed_low x = text_value 6 (lower_millionths 48 x)

-- the value of its printed upper end, rounded up
abbrev pub printed_high : Ends → Fraction
printed_high x = text_value 6 (upper_millionths 48 x)

-- the interval encloses the value at each depth from 1024 on, and so do its two printed numbers
pub record ShowsValue (x : Ends) (value : ℕ → Fraction) : Type 0 where
  pub encloses : Encloses 48 x.lo x.hi value
  pub above_low : (n : ℕ) → 1024 ≤ n → printed_low x ≤ℚ value n
  pub below_high : (n : ℕ) → 1024 ≤ n → value n ≤ℚ printed_high x

-- The report shows the expected backorders and their variance, for a pipeline with exactly this mean, variance and
-- stock.
pub record ShowsModel (mean variance : Fraction) (stock : ℕ) (report : SingleReport) : Type 0 where
  pub backorders : ShowsValue report.backorders (λ n. ebo n mean variance stock)
  pub spread : ShowsValue report.spread (λ n. vbo n mean variance stock)

-- ---- a case

-- the value of the printed lower end of a span, rounded down
abbrev pub span_low : Span → Fraction
span_low x = text_value 6 (lower_millionths (places x) (ends x))

-- the value of its printed upper end, rounded up
abbrev pub span_high : Span → Fraction
span_high x = text_value 6 (upper_millionths (places x) (ends x))

-- a value lies between the two printed numbers of a span, at each depth from 1024 on
pub record PrintsAround (x : Span) (value : ℕ → Fraction) : Type 0 where
  pub above_low : (n : ℕ) → 1024 ≤ n → span_low x ≤ℚ value n
  pub below_high : (n : ℕ) → 1024 ≤ n → value n ≤ℚ span_high x

-- The report shows the figures of the case at the stocks with this count of bits; and if a span encloses a value, so do
-- its two printed numbers.
pub record ShowsCase (bits : ℕ) (c : CaseRows) (s : StockList) (report : EvalReport) : Type 0 where
  pub bits_are : report.bits ≡ bits
  pub shows : ShowsFigures bits c s report.figures
  pub prints : (x : Span) (value : ℕ → Fraction) → ShowsSpan bits value x → PrintsAround x value

-- ---- a plan

-- A plan's report is true of its case, and its certificate shows it. The stocks are the plan's.
pub record IsTrueAndShown (x : Planning) (name : List ℕ) (writes : Option Written) (report : PlanReport) : Type 0 where
  pub plan : CasePlan
  -- the case is accepted: it is valid, and no rate of it is refused
  pub accepted : IsAcceptedCase x.case
  -- in the words of the model, for the objective and the held stocks
  pub says : IsTrueReport (ends_of x.terms.objective) (value_of x.terms.objective) x.case (held_stocks_of x).list
      (plan_request x) plan report
  -- and for weighted backorders with no stocks on hand, in its plain words
  pub plainly : x.terms.objective ≡ Backorders → x.on_hand ≡ None
      → IsTruePlanReport x.case x.terms.budget plan.stocks report
  -- no certificate of the same case, held stocks, budget and objective that breaks no rule of the checker has a bound
  -- above the report's bound plus its rounding
  pub no_certificate : NoCertificateShowsMore x.case (held_stocks_of x) x.terms (report.bound + report.rounding)
  -- if a span encloses a value, so do its two printed numbers
  pub prints : (span : Span) (value : ℕ → Fraction) → ShowsSpan 48 value span → PrintsAround span value
  -- the written certificate breaks no rule of the checker
  pub written : writes ≡ Some (record { name = name; bytes = certificate_text x plan })
  pub acceptable : reject_of (ends_of x.terms.objective) (plan_certificate x plan) (held_stocks_of x) ≡ None
  -- and `check` of these bytes confirms it
  pub within : length (certificate_text x plan) ≤ certificate_limit
  pub confirmed : claimed_of (certificate_text x plan) ≡ Ok
      (record { certificate = plan_certificate x plan; on_hand = x.on_hand })

-- ---- a check

-- the aim of these stocks is at most the printed upper end
abbrev pub HasNoMoreThanPrinted : Value → CaseRows → List ℕ → ℕ → Type 0
HasNoMoreThanPrinted value c s upper =
    (n : ℕ) → 1024 ≤ n → aim value c s n ≤ℚ text_value 6 (millionths_up 48 upper)

-- The claims of a certificate that breaks no rule are true of its case, whoever made it.
pub record IsTrueCheck (x : Claim) (report : CheckReport) : Type 0 where
  pub report_is : report ≡ check_of x
  -- its stocks include the held stocks and fit the budget, their aim is at most its upper end, and no stocks within the
  -- budget have less than its bound
  pub says : AreTrueClaims (value_of x.certificate.objective) x.certificate.case
      (held_in x.certificate.case x.on_hand).list x.certificate.budget
      (case_claims_of x.certificate)
  -- or less than the printed bound
  pub printed : NoneHasLessThanPrinted (value_of x.certificate.objective) x.certificate.case
      (held_in x.certificate.case x.on_hand).list
      report.budget report.bound
  -- and their aim is at most the printed upper end
  pub printed_upper : HasNoMoreThanPrinted (value_of x.certificate.objective) x.certificate.case
      x.certificate.stocks.list report.upper
  -- the printed cost is the cost of the added stocks, and `on-hand` the cost of the stocks on hand
  pub cost_is : report.cost ≡ cost_beyond x.certificate.case (held_in x.certificate.case x.on_hand).list
      x.certificate.stocks.list
  pub on_hand_is : report.on_hand ≡ option_map (λ (stocks : StockList). cost x.certificate.case stocks.list) x.on_hand
  -- and for weighted backorders with no stocks on hand, in the model's plain words
  pub plainly : x.certificate.objective ≡ Backorders → x.on_hand ≡ None
      → ArePlainClaims x.certificate.case x.certificate.budget (case_claims_of x.certificate)

-- ---- a demonstration

-- The summary is true of the demonstration case. The stocks are the plan's.
pub record IsTrueDemo (number lines : ℕ) (summary : Summary) : Type 0 where
  pub plan : CasePlan
  pub accepted : IsAcceptedCase (made number lines)
  pub is : summary ≡ summary_of number lines plan
  -- the stocks are within the limits and fit the budget, no stocks within the budget have fewer backorders than
  -- the bound, and no price shows more than bound plus rounding
  pub says : IsPlainPlan (made number lines) (budget_of lines) plan
  -- the total is enclosed, and its two printed numbers enclose it too
  pub shows : ShowsValue summary.total (case_total (made number lines) plan.stocks)
  -- no stocks within the budget have fewer backorders than the printed bound
  pub printed : (n : ℕ) → 1024 ≤ n → (s : List ℕ) → IsAllocation (made number lines) s
      → cost (made number lines) s ≤ budget_of lines
      → text_value 6 (millionths_down 48 summary.bound) ≤ℚ case_total (made number lines) s n
  -- the bound plus the gap is the total's upper end
  pub gap : summary.bound + summary.gap ≡ summary.total.hi
  -- the checker accepts the certificate
  pub acceptable : reject_of plain_ends (demo_certificate number lines plan) (nothing_held (made number lines)) ≡ None

-- ---- a sweep

-- Each point of a sweep is true of the case: some stocks within the limits have exactly its cost and a total of
-- weighted backorders between its ends, and between the printed ends; and no stocks that cost at most as much have less
-- than its lower end.
pub record IsTrueSweep (c : CaseRows) (report : SweepReport) : Type 0 where
  pub accepted : IsAcceptedCase c
  pub says : (k : ℕ) → k < length report.points
      → IsTruePoint weighted_backorders c (nothing_held c).list (state_at report.points k)

-- The report of a target is true of the case: some stocks with the cost of the reported point have at most the target
-- of weighted backorders, and all stocks that reach the target cost at least the reported cost; if no cost is reported,
-- there are no such stocks.
pub record IsTruePrice (c : CaseRows) (backorders : Decimal) (report : TargetReport) : Type 0 where
  pub accepted : IsAcceptedCase c
  pub target_is : report.target ≡ backorders
  pub says : IsTrueTarget weighted_backorders c (nothing_held c).list report

-- ---- a session

-- The report of one plan of a session is true of the case and the budget at its line. The stocks are the plan's.
pub record IsTrueAnswer (d : PlanDue) (report : PlanReport) : Type 0 where
  pub plan : CasePlan
  pub accepted : IsAcceptedCase d.case
  -- in the words of the model, for weighted backorders with nothing held; and in its plain words
  pub says : IsTrueReport plain_ends weighted_backorders d.case (nothing_held d.case).list
      (plain_request d.budget) plan report
  pub plainly : IsTruePlanReport d.case d.budget plan.stocks report
  -- if a span encloses a value, so do its two printed numbers
  pub prints : (span : Span) (value : ℕ → Fraction) → ShowsSpan 48 value span → PrintsAround span value

-- ---- a comparison

-- A comparison is true of the case at the stocks: it shows the model's and the Poisson backorders, pair by pair, and
-- the two weighted totals. If an interval encloses a value, so do its two printed numbers.
pub record IsTrueComparison (c : CaseRows) (s : StockList) (report : CompareReport) : Type 0 where
  pub says : ShowsComparison c s report
  pub prints : (x : Ends) (value : ℕ → Fraction) → Encloses 48 x.lo x.hi value → ShowsValue x value

-- ---- a task

-- the report is of this kind and satisfies `Holds`
pub record Reports {R : Type 0} (kind : R → Done) (Holds : R → Type 0) (done : Done) : Type 0 where
  pub report : R
  pub is : done ≡ kind report
  pub holds : Holds report

-- This outcome is true of the task's subject, in the words of the model.
abbrev pub IsTrue : Task → TaskOutcome → Type 0
IsTrue (show_pipeline mean variance stock) outcome =
    Reports Single (ShowsModel (ten_thousandths mean) (ten_thousandths variance) stock) outcome.done
IsTrue (evaluate case stocks bits) outcome = Reports Evaluated (ShowsCase bits case stocks) outcome.done
IsTrue (make_plan planning name) outcome = Reports Planned (IsTrueAndShown planning name outcome.writes) outcome.done
IsTrue (confirm claimed) outcome = Reports Checked (IsTrueCheck claimed) outcome.done
IsTrue (demonstrate number lines) outcome = Reports Demo (IsTrueDemo number lines) outcome.done
IsTrue (sweep_budgets case) outcome = Reports Swept (IsTrueSweep case) outcome.done
IsTrue (price_target case backorders) outcome = Reports Targeted (IsTruePrice case backorders) outcome.done
IsTrue (plan_in_turn due) outcome = Reports Session (λ report. AllZip IsTrueAnswer due report.plans) outcome.done
IsTrue (set_beside case stocks) outcome = Reports Compared (IsTrueComparison case stocks) outcome.done
