-- The summary of a demonstration from its plan's outcome. No promise of the crate rests on these words.
use Rattle.std.specs.Prelude.{ℕ}
use Rattle.case_figures.specs.Spans.{ends}
use Rattle.case_plan.specs.declared.outcome.Outcome.{Outcome}
use Rattle.plan_report.specs.declared.summary.Summary.{Summary}

-- the summary of the demonstration, from its plan's outcome
abbrev pub summary_in : ℕ → ℕ → ℕ → Outcome → Summary
summary_in number lines parts o = record {
  number = number;
  lines = lines;
  parts = parts;
  budget = o.report.budget;
  cost = o.report.figures.cost;
  total = ends o.report.figures.total;
  bound = o.report.bound;
  gap = o.report.gap;
}
