use Rattle.std.proofs.Common.{sym, subst}
use Rattle.std.specs.Prelude.{IfOk}
use Rattle.case_edits.specs.Edits.{PlanDue}
use Rattle.demand_rates.specs.Rates.{AreRatesOf}
use Rattle.spares_input.specs.Cases.{CaseRows}
use Rattle.session_report.specs.Reports.{IsReportOf}
use Rattle.session_plans.proofs.Later.{due_same, later_twice}
use Rattle.session_plans.proofs.session.Session.reported.Goals as goal

pub planned-requires : goal.planned-requires
planned-requires g c = subst (λ (z : CaseRows). AreRatesOf z c.args.rates.now) (sym c.planned_by_parts.ensures.later.case_is) c.requires

pub returns-in-Ok-None-clause-report : goal.returns-in-Ok-None-clause-report
returns-in-Ok-None-clause-report g c =
    subst (λ (d : PlanDue). IfOk c.planned.result (IsReportOf d)) (due_same c.args.self.now c.planned_by_parts.new.self c.planned_by_parts.ensures.later) c.planned.ensures.report

pub returns-in-Ok-None-clause-later : goal.returns-in-Ok-None-clause-later
returns-in-Ok-None-clause-later g c =
    later_twice c.args.self.now c.planned_by_parts.new.self c.planned.new.self c.planned_by_parts.ensures.later c.planned.ensures.later
