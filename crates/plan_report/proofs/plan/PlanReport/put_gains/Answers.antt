use Rattle.plan_report.specs.Texts.{cost_text, loss_text, on_hand_text, stocks_text}
use Rattle.plan_report.proofs.Chains.{after, joined}
use Rattle.plan_report.proofs.plan.PlanReport.put_gains.Goals as goal

pub returns : goal.returns
returns c =
    let report = c.args.self.now in
    after c.put_loss.result _ _
    (joined c.args.text.now.items (cost_text report.figures) (on_hand_text report.on_hand) (stocks_text report.figures) (loss_text report.loss)
    c.put_cost.new.text.items c.put_on_hand.new.text.items c.put_stocks.new.text.items c.put_loss.new.text.items
    c.in_ok-put_cost.ensures c.in_ok-put_on_hand.ensures c.in_ok-put_stocks.ensures) c.put_loss.ensures
