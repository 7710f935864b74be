-- What a demonstration shows.
use Rattle.std.proofs.Common.{◌≡◌, refl, subst, sym, ℕ, ◌+◌, ◌≤◌, List, Ok}
use Rattle.exact_model.specs.Fraction.{Encloses, ◌≤ℚ◌}
use Rattle.fixed_interval.specs.Text.{text_value}
use Rattle.spares_input.specs.Cases.{CaseRows}
use Rattle.case_maker.specs.Demonstration.{made}
use Rattle.case_maker.proofs.Public.{made_valid, made_drawn}
use Rattle.case_plan.specs.Report.{outcome_of, report_of, plain_request}
use Rattle.case_plan.specs.declared.outcome.Outcome.{Outcome}
use Rattle.case_plan.specs.Truth.{IsTruePlanReport}
use Rattle.case_plan.proofs.Public.{from_nothing, plain_true}
use Rattle.certified_plan.specs.Inputs.{IsPlanOn}
use Rattle.certified_plan.proofs.Public.{accepted, none_is_held}
use Rattle.demo_accepts.proofs.Public.{faultless, zeros_hold}
use Rattle.demo_accepts.specs.Demonstrations.{IsDemonstrated, budget_of, demo_terms}
use Rattle.fleet_model.specs.Fleet.{IsAllocation, cost, case_total}
use Rattle.fleet_plan.specs.Laws.{IsAcceptedCase}
use Rattle.fleet_plan.specs.Plans.{CasePlan, IsPlainPlan}
use Rattle.fleet_plan.proofs.Public.{plain_plan}
use Rattle.plan_report.specs.Fits.{FitsSummary}
use Rattle.plan_report.specs.Texts.{millionths_down}
use Rattle.plan_report.specs.declared.summary.Summary.{Summary}
use Rattle.command_outcomes.specs.Headline.{IsTrueDemo}
use Rattle.command_outcomes.specs.Making.{Is, IsMade}
use Rattle.command_outcomes.specs.Task.{demonstrate, printed}
use Rattle.command_outcomes.specs.declared.done.Done.TheVariants.{Demo}
use Rattle.command_outcomes.proofs.Public.{shown}
use Rattle.family_points.specs.Points.{plain_ends}
use Rattle.spares_input.specs.Stocks.{nothing_held}
use Rattle.plan_commands.proofs.Told.{are_terms, demo_work}

module _ (number lines : ℕ) (few : lines ≤ 80) (summary : Summary) (h : IsDemonstrated number lines summary) where
  abbrev case : CaseRows
  case = made number lines

  abbrev plan : CasePlan
  plan = h.plan

  is_accepted : IsAcceptedCase case
  is_accepted = record { valid = made_valid number lines few; no_fault = faultless case (made_valid number lines few) (made_drawn number lines) }

  abbrev outcome : Outcome
  outcome = outcome_of plain_ends case (plain_request (budget_of lines)) plan

  on_plan : IsPlanOn case (nothing_held case) (demo_terms (budget_of lines)) outcome
  on_plan = record {
    accepted = is_accepted;
    are_terms = are_terms lines few;
    is_held = none_is_held case;
    plan = plan;
    is_plan = h.is_plan;
    request = plain_request (budget_of lines);
    same_budget = refl;
    is = refl;
  }

  says : IsPlainPlan case (budget_of lines) plan
  says = plain_plan case (budget_of lines) plan is_accepted (from_nothing case (nothing_held case).list (zeros_hold case) plain_ends (budget_of lines) plan h.is_plan)

  report : IsTruePlanReport case (budget_of lines) plan.stocks (report_of plain_ends case (plain_request (budget_of lines)) plan)
  report =
      plain_true case (nothing_held case).list (plain_request (budget_of lines)) (report_of plain_ends case (plain_request (budget_of lines)) plan) is_accepted (zeros_hold case)
      (record { plan = plan; is_plan = h.is_plan; is = refl })

  encloses : Encloses 48 summary.total.lo summary.total.hi (case_total case plan.stocks)
  encloses = subst (λ (z : Summary). Encloses 48 z.total.lo z.total.hi (case_total case plan.stocks)) (sym h.is) report.shows.total_in.encloses

  printed_bound : (n : ℕ) → 1024 ≤ n → (s : List ℕ) → IsAllocation case s → cost case s ≤ budget_of lines
      → text_value 6 (millionths_down 48 summary.bound) ≤ℚ case_total case s n
  printed_bound n deep s a f = subst (λ (z : Summary). text_value 6 (millionths_down 48 z.bound) ≤ℚ case_total case s n) (sym h.is) (report.printed n deep s a f)

  gap : summary.bound + summary.gap ≡ summary.total.hi
  gap = subst (λ (z : Summary). z.bound + z.gap ≡ z.total.hi) (sym h.is) report.gap

  is_true : IsTrueDemo number lines summary
  is_true = record {
    plan = plan;
    accepted = is_accepted;
    is = h.is;
    says = says;
    shows = shown summary.total (case_total case plan.stocks) encloses;
    printed = printed_bound;
    gap = gap;
    acceptable = accepted case (nothing_held case) (demo_terms (budget_of lines)) outcome on_plan (demo_work number lines case (nothing_held case) few refl refl);
  }

  -- the summary of a demonstration is what its task asks for
  pub demonstrated : FitsSummary summary → IsMade (Is (Ok (demonstrate number lines))) (printed (Demo summary))
  demonstrated fits = record {
    task = demonstrate number lines;
    is_due = refl;
    fulfils = record { report = summary; is = refl; holds = h };
    is_true = record { report = summary; is = refl; holds = is_true };
    prints = fits;
  }
