use Rattle.std.proofs.Common.{◌≡◌, ◌++◌, take}
use Rattle.std.specs.List.{flat_map}
use Rattle.plan_report.specs.Texts.{plan_text}
use Rattle.session_report.proofs.report.put_plans.Given as goal

abbrev pub invariant-loop-plan : goal.invariant-loop-plan
invariant-loop-plan l = l.text.items ≡ l.initial.text.items ++ flat_map plan_text (take l.plan-index l.plans)
