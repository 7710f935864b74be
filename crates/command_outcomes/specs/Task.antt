-- The task of an order, over the bytes of its files. Means and variances are in ten-thousandths.
use Rattle.std.specs.List.{AllZip}
use Rattle.std.specs.Prelude.{◌≡◌, ℕ, List, Option, Some, None, option_map, Result, Ok, Err, unwrap_or}
use Rattle.demand_rates.specs.Single.{single_fault_of}
use Rattle.demand_rates.specs.declared.fault.RateFault.{RateFault}
use Rattle.exact_ratio.specs.declared.decimal.Decimal.{Decimal}
use Rattle.fixed_interval.specs.Ends.{ends_ratio}
use Rattle.moment_table.specs.Profile.{table_rows}
use Rattle.moment_table.specs.Rows.{at_stock}
use Rattle.moment_table.specs.declared.kinds.Row.{Row}
use Rattle.budget_sweep.specs.Cases.{IsCaseSweep, IsCaseTarget}
use Rattle.case_edits.specs.Edits.{PlanDue, session_of}
use Rattle.case_figures.specs.Figures.{figures_of}
use Rattle.metric_compare.specs.Report.{comparison_of}
use Rattle.plan_report.specs.declared.eval.EvalReport.{EvalReport}
use Rattle.plan_report.specs.declared.single.SingleReport.{SingleReport}
use Rattle.session_report.specs.Reports.{IsReportOf}
use Rattle.spares_input.specs.Cases.{CaseRows}
use Rattle.spares_input.specs.Stocks.{StockList, nothing_held}
use Rattle.spares_io.specs.Shelf.{Files}
use Rattle.price_certificate.specs.declared.certificate.Terms.{Terms}
use Rattle.spares_words.specs.declared.order.Order.{Order}
use Rattle.spares_words.specs.declared.order.Order.TheVariants as order
use Rattle.spares_words.specs.declared.order.WordsFault.{WordsFault}
use Rattle.order_inputs.specs.Cases.{case_to_edit, case_within_work, stocked_by}
use Rattle.order_inputs.specs.Files.{CaseBytes, bytes_at, inputs_of, reads, tables_in}
use Rattle.command_outcomes.specs.declared.checking.Claim.{Claim}
use Rattle.command_outcomes.specs.declared.done.Done.{Done}
use Rattle.command_outcomes.specs.declared.done.Done.TheVariants.{Single, Evaluated, Checked, Demo, Swept, Targeted, Session, Compared}
use Rattle.command_outcomes.specs.declared.done.TaskOutcome.{TaskOutcome}
use Rattle.refusals.specs.declared.failure.Failure.{Failure}
use Rattle.refusals.specs.declared.refusal.File.TheVariants as file
use Rattle.refusals.specs.declared.refusal.Refusal.TheVariants as refusal
use Rattle.answers.specs.Steps.{◌>>=◌}
use Rattle.refusals.specs.Causes.{or_refuse, plain_failure}
use Rattle.refusals.specs.Lines.{no_names}
use Rattle.command_outcomes.specs.Plans.{Planning, IsPlannedOutcome, planning_of}
use Rattle.demo_accepts.specs.Demonstrations.{IsDemonstrated}
use Rattle.command_outcomes.specs.Checks.{claimed_of, check_of}
use Rattle.family_points.specs.Points.{plain_ends}

-- The task of an accepted order.
pub data Task : Type 0 where
  -- the backorders of a pipeline with this mean and variance, and their variance, at this stock
  show_pipeline : ℕ → ℕ → ℕ → Task
  -- the figures of a case at these stocks, with this count of bits
  evaluate : CaseRows → StockList → ℕ → Task
  -- the plan of a case, and its certificate under this name
  make_plan : Planning → List ℕ → Task
  -- the claims of a certificate that breaks no rule
  confirm : Claim → Task
  -- the plan of the demonstration case of a number and a count of line units
  demonstrate : ℕ → ℕ → Task
  -- the best backorders of a case for every budget
  sweep_budgets : CaseRows → Task
  -- the cost of this target for a case
  price_target : CaseRows → Decimal → Task
  -- these plans, one after the other
  plan_in_turn : List PlanDue → Task
  -- the backorders of a case at these stocks, beside those with Poisson pipelines
  set_beside : CaseRows → StockList → Task

-- ---- the task of an order

-- the variance of a pipeline, by default its mean
abbrev pub variance_of : Decimal → Option Decimal → Decimal
variance_of mean variance = unwrap_or variance mean

-- the task, unless the rates are refused
abbrev pub unless_refused : Option RateFault → Task → Result Task Failure
unless_refused None task = Ok task
unless_refused (Some fault) task = Err (plain_failure (refusal.Rate fault))

-- a single pipeline is refused by its mean or its variance
abbrev pub single_task : ℕ → ℕ → ℕ → Result Task Failure
single_task mean variance stock = unless_refused (single_fault_of mean variance) (show_pipeline mean variance stock)

-- the case of tables is evaluated at the stocks of a further table
abbrev pub eval_task : CaseBytes → List ℕ → ℕ → Result Task Failure
eval_task tables stocks bits = do
  stocked ← stocked_by file.Stocks tables stocks
  Ok (evaluate stocked.case stocked.stocks bits)

-- the case of tables is planned, from stocks on hand if there is a table of them
abbrev pub plan_task : CaseBytes → Option (List ℕ) → Terms → List ℕ → Result Task Failure
plan_task tables on_hand terms name = do
  planning ← planning_of tables on_hand terms
  Ok (make_plan planning name)

-- a certificate that breaks no rule is confirmed
abbrev pub check_task : List ℕ → Result Task Failure
check_task bytes = do
  claimed ← claimed_of bytes
  Ok (confirm claimed)

-- the budgets of a case are swept
abbrev pub sweep_task : CaseBytes → Result Task Failure
sweep_task tables = do
  case ← case_within_work tables
  Ok (sweep_budgets case)

-- a target of its backorders is priced
abbrev pub target_task : CaseBytes → Decimal → Result Task Failure
target_task tables backorders = do
  case ← case_within_work tables
  Ok (price_target case backorders)

-- the plans that edits of a case ask for are made; its rates matter only if a plan is asked for
abbrev pub session_task : CaseBytes → List ℕ → Result Task Failure
session_task tables edits = do
  case ← case_to_edit tables
  due ← or_refuse no_names refusal.Edit (session_of case edits)
  Ok (plan_in_turn due)

-- the case of tables is compared at the stocks of a further table
abbrev pub compare_task : CaseBytes → List ℕ → Result Task Failure
compare_task tables stocks = do
  stocked ← stocked_by file.Stocks tables stocks
  Ok (set_beside stocked.case stocked.stocks)

-- the task of an order on the bytes of its inputs, or the reason why it is refused
abbrev pub task_on : Order → List (List ℕ) → Result Task Failure
task_on (order.Single mean variance stock) bytes = single_task mean.units (variance_of mean variance).units stock
task_on (order.Eval sites parts rates stocks bits) bytes = eval_task (tables_in bytes) (bytes_at bytes 3) bits
task_on (order.Plan sites parts rates on_hand budget format objective certificate) bytes =
    plan_task (tables_in bytes) (option_map (λ name. bytes_at bytes 3) on_hand)
    (record { budget = budget; format = format; objective = objective }) certificate
task_on (order.Check certificate) bytes = check_task (bytes_at bytes 0)
task_on (order.Demo number lines) bytes = Ok (demonstrate number lines)
task_on (order.Sweep sites parts rates) bytes = sweep_task (tables_in bytes)
task_on (order.Target sites parts rates backorders) bytes = target_task (tables_in bytes) backorders
task_on (order.Session sites parts rates edits) bytes = session_task (tables_in bytes) (bytes_at bytes 3)
task_on (order.Compare sites parts rates stocks) bytes = compare_task (tables_in bytes) (bytes_at bytes 3)

-- words without an order are refused
abbrev pub task_on_words : Result Order WordsFault → List (List ℕ) → Result Task Failure
task_on_words (Ok o) bytes = task_on o bytes
task_on_words (Err fault) bytes = Err (plain_failure (refusal.Words fault))

-- the task of an order over these files, or the first refusal, with its line
abbrev pub task_of : Result Order WordsFault → Files → Result Task Failure
task_of order held = do
  bytes ← reads held (inputs_of order)
  task_on_words order bytes

-- ---- fulfilment

-- the row of the table at 48 bits for the stock
abbrev pub row_of : ℕ → ℕ → ℕ → Row 48
row_of mean variance stock = at_stock (table_rows 48 (ends_ratio 48 mean 10000) (ends_ratio 48 variance 10000)) stock

-- the report of a single pipeline
abbrev pub single_of : ℕ → ℕ → ℕ → SingleReport
single_of mean variance stock = record {
  backorders = (row_of mean variance stock).ebo;
  spread = (row_of mean variance stock).vbo;
}

-- the report of a case at stocks, with this count of bits
abbrev pub eval_of : ℕ → CaseRows → StockList → EvalReport
eval_of bits c s = record { bits = bits; figures = figures_of bits c s }

-- a printed report, with no write before it
abbrev pub printed : Done → TaskOutcome
printed done = record { done = done; writes = None }

-- the outcome prints a report of this kind that satisfies `Holds`
pub record Shows {R : Type 0} (kind : R → Done) (Holds : R → Type 0) (outcome : TaskOutcome) : Type 0 where
  pub report : R
  pub is : outcome ≡ printed (kind report)
  pub holds : Holds report

-- This outcome fulfils the task.
abbrev pub Fulfils : Task → TaskOutcome → Type 0
Fulfils (show_pipeline mean variance stock) outcome = outcome ≡ printed (Single (single_of mean variance stock))
Fulfils (evaluate case stocks bits) outcome = outcome ≡ printed (Evaluated (eval_of bits case stocks))
Fulfils (make_plan planning name) outcome = IsPlannedOutcome planning name outcome
Fulfils (confirm claimed) outcome = outcome ≡ printed (Checked (check_of claimed))
Fulfils (demonstrate number lines) outcome = Shows Demo (IsDemonstrated number lines) outcome
Fulfils (sweep_budgets case) outcome = Shows Swept (IsCaseSweep plain_ends case (nothing_held case).list) outcome
Fulfils (price_target case backorders) outcome =
    Shows Targeted (IsCaseTarget plain_ends case (nothing_held case).list backorders) outcome
Fulfils (plan_in_turn due) outcome = Shows Session (λ report. AllZip IsReportOf due report.plans) outcome
Fulfils (set_beside case stocks) outcome = outcome ≡ printed (Compared (comparison_of case stocks))
