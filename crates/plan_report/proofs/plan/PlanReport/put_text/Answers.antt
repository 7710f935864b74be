use Rattle.std.specs.Prelude.{codes}
use Rattle.std.specs.Fmt.{decimal}
use Rattle.plan_report.specs.Texts.{bounds_text, gains_text, line, steps_text}
use Rattle.plan_report.proofs.Chains.{after, joined}
use Rattle.plan_report.proofs.plan.PlanReport.put_text.Goals as goal

pub returns : goal.returns
returns c =
    let report = c.args.self.now in
    after c.put_steps.result _ _
    (joined c.args.text.now.items (line (codes "plan") (decimal report.budget)) (gains_text report) (bounds_text report) (steps_text report)
    c.put_number_line.new.text.items c.put_gains.new.text.items c.put_bounds.new.text.items c.put_steps.new.text.items
    c.in_ok-put_number_line.ensures c.in_ok-put_gains.ensures c.in_ok-put_bounds.ensures) c.put_steps.ensures
