-- A demonstration and its summary.
use Rattle.std.specs.Prelude.{◌≡◌, ℕ, ◌*◌, length}
use Rattle.case_figures.specs.Figures.{case_total_of}
use Rattle.case_maker.specs.Demonstration.{made}
use Rattle.case_plan.specs.Report.{outcome_of, plain_request}
use Rattle.certified_plan.specs.Certificates.{certificate_of}
use Rattle.price_certificate.specs.declared.certificate.Terms.{Terms}
use Rattle.fleet_plan.specs.Plans.{CasePlan, IsCasePlan}
use Rattle.plan_report.specs.declared.summary.Summary.{Summary}
use Rattle.price_certificate.specs.declared.certificate.Certificate.{Certificate}
use Rattle.price_certificate.specs.declared.certificate.Objective.TheVariants.{Backorders}
use Rattle.family_points.specs.Points.{plain_ends}
use Rattle.spares_input.specs.Stocks.{nothing_held}

-- the budget for this count of line units, in whole money
abbrev pub budget_of : ℕ → ℕ
budget_of lines = 2000 * lines

-- a certificate of format 1
abbrev pub demo_terms : ℕ → Terms
demo_terms budget = record { budget = budget; format = 1; objective = Backorders }

-- the summary of a plan of the demonstration case
abbrev pub summary_of : ℕ → ℕ → CasePlan → Summary
summary_of number lines p = record {
  number = number;
  lines = lines;
  parts = length (made number lines).parts;
  budget = budget_of lines;
  cost = p.numbers.cost;
  total = case_total_of 48 (made number lines) p.stocks;
  bound = p.numbers.bound;
  gap = p.numbers.gap;
}

-- the certificate of the plan
abbrev pub demo_certificate : ℕ → ℕ → CasePlan → Certificate
demo_certificate number lines p =
    certificate_of (made number lines) (nothing_held (made number lines)) (demo_terms (budget_of lines))
    (outcome_of plain_ends (made number lines) (plain_request (budget_of lines)) p)

-- The summary is the summary of the demonstration case's plan with nothing held; there is exactly one.
pub record IsDemonstrated (number lines : ℕ) (summary : Summary) : Type 0 where
  pub plan : CasePlan
  pub is_plan : IsCasePlan plain_ends (made number lines) (nothing_held (made number lines)).list (budget_of lines) plan
  pub is : summary ≡ summary_of number lines plan
