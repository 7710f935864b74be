-- What a sweep and the price of a target make is what their tasks ask for, and it is true.
use Rattle.std.proofs.Common.{◌≡◌, refl, Result, Ok}
use Rattle.budget_sweep.specs.Cases.{IsCaseSweep, IsCaseTarget}
use Rattle.budget_sweep.specs.Fits.{SweepFits, TargetFits}
use Rattle.budget_sweep.specs.declared.report.SweepReport.{SweepReport}
use Rattle.budget_sweep.specs.declared.report.TargetReport.{TargetReport}
use Rattle.budget_sweep.proofs.Public.{point_true, target_true}
use Rattle.exact_ratio.specs.declared.decimal.Decimal.{Decimal}
use Rattle.fleet_model.specs.Aims.{weighted_backorders}
use Rattle.fleet_plan.specs.Laws.{IsAcceptedCase}
use Rattle.fleet_plan.proofs.Public.{plain_encloses}
use Rattle.refusals.specs.declared.failure.Failure.{Failure}
use Rattle.spares_input.specs.Cases.{CaseRows}
use Rattle.answers.specs.Steps.{◌>>=◌}
use Rattle.command_outcomes.specs.Headline.{IsTruePrice, IsTrueSweep}
use Rattle.command_outcomes.specs.Making.{Is, IsMade}
use Rattle.command_outcomes.specs.Task.{price_target, printed, sweep_budgets}
use Rattle.command_outcomes.specs.declared.done.Done.TheVariants.{Targeted, Swept}
use Rattle.family_points.specs.Points.{plain_ends}
use Rattle.spares_input.specs.Stocks.{nothing_held}

module _ (c : CaseRows) (accepted : IsAcceptedCase c) (given : Result CaseRows Failure) (is_given : given ≡ Ok c) where
  sweep_true : (report : SweepReport) → IsCaseSweep plain_ends c (nothing_held c).list report → IsTrueSweep c report
  sweep_true report h = record {
    accepted = accepted;
    says = λ k l. point_true plain_ends weighted_backorders c (nothing_held c).list accepted plain_encloses h.curves report.points h.is_sweep k l;
  }

  -- a sweep of the case is what its task asks for
  pub swept : (report : SweepReport) → IsCaseSweep plain_ends c (nothing_held c).list report → SweepFits report
      → IsMade (Is (given >>= λ case. Ok (sweep_budgets case))) (printed (Swept report))
  swept report h fits = record {
    task = sweep_budgets c;
    is_due = rw is_given refl;
    fulfils = record { report = report; is = refl; holds = h };
    is_true = record { report = report; is = refl; holds = sweep_true report h };
    prints = fits;
  }

  module _ (backorders : Decimal) where
    price_true : (report : TargetReport) → IsCaseTarget plain_ends c (nothing_held c).list backorders report → IsTruePrice c backorders report
    price_true report h = record {
      accepted = accepted;
      target_is = h.is_target.target_is;
      says = target_true plain_ends weighted_backorders c (nothing_held c).list accepted plain_encloses h.curves h.is_target.points
          (record { areas = h.areas; shapes = h.shapes; sweep = h.is_target.sweep }) report h.is_target.told;
    }

    -- the price of a target in backorders is what its task asks for
    pub priced : (report : TargetReport) → IsCaseTarget plain_ends c (nothing_held c).list backorders report → TargetFits report
        → IsMade (Is (given >>= λ case. Ok (price_target case backorders))) (printed (Targeted report))
    priced report h fits = record {
      task = price_target c backorders;
      is_due = rw is_given refl;
      fulfils = record { report = report; is = refl; holds = h };
      is_true = record { report = report; is = refl; holds = price_true report h };
      prints = fits;
    }
