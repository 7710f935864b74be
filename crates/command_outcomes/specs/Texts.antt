-- The texts of the reports.
use Rattle.std.specs.Prelude.{All, ℕ, List, ◌<◌, ◌^◌}
use Rattle.std.specs.List.{flat_map}
use Rattle.budget_sweep.specs.Fits.{SweepFits, TargetFits}
use Rattle.budget_sweep.specs.Texts.{sweep_text, target_text}
use Rattle.case_figures.specs.Fits.{FitsPrint}
use Rattle.metric_compare.specs.Fits.{FitsComparison}
use Rattle.metric_compare.specs.Texts.{compare_text}
use Rattle.plan_report.specs.Fits.{FitsPlan, FitsCheck, FitsSummary}
use Rattle.plan_report.specs.Texts.{check_text, eval_text, plan_text, single_text, summary_text}
use Rattle.command_outcomes.specs.declared.done.Done.{Done}
use Rattle.command_outcomes.specs.declared.done.Done.TheVariants.{Single, Evaluated, Planned, Checked, Demo, Swept, Targeted, Session, Compared}

-- the text of a report
abbrev pub done_text : Done → List ℕ
done_text (Single report) = single_text report
done_text (Evaluated report) = eval_text report
done_text (Planned report) = plan_text report
done_text (Checked report) = check_text report
done_text (Demo summary) = summary_text summary
done_text (Swept report) = sweep_text report
done_text (Targeted report) = target_text report
done_text (Session report) = flat_map plan_text report.plans
done_text (Compared report) = compare_text report

-- all numbers of a report can be printed
abbrev pub CanPrint : Done → Type 0
CanPrint (Single report) = (report.backorders.hi < 2 ^ 86) × (report.spread.hi < 2 ^ 86)
CanPrint (Evaluated report) = FitsPrint report.figures
CanPrint (Planned report) = FitsPlan report
CanPrint (Checked report) = FitsCheck report
CanPrint (Demo summary) = FitsSummary summary
CanPrint (Swept report) = SweepFits report
CanPrint (Targeted report) = TargetFits report
CanPrint (Session report) = All FitsPlan report.plans
CanPrint (Compared report) = FitsComparison report
