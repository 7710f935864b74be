use Rattle.std.proofs.Common.{◌∙◌, ◌++◌, ℕ, ap, codes}
use Rattle.std.specs.Fmt.{decimal}
use Rattle.list_laws.proofs.Public.{joined_more}
use Rattle.plan_report.specs.Texts.{down_text, line, on_hand_text, up_text}
use Rattle.plan_report.proofs.Chains.{after, joined}
use Rattle.plan_report.proofs.check.CheckReport.put_text.Goals as goal

pub returns : goal.returns
returns c =
    let report = c.args.self.now in
    let old = c.args.text.now.items in
    let format = λ (n : ℕ). line (codes "accepted") (decimal n) in
    let budget = line (codes "budget") (decimal report.budget) in
    let cost = line (codes "cost") (decimal report.cost) in
    let held = on_hand_text report.on_hand in
    let ends = line (codes "upper") (up_text report.upper) ++ line (codes "bound") (down_text report.bound) in
    let first = c.put_number_line.new.text.items in
    let last = c.put_ends.new.text.items in
    after c.put_ends.result _ _
    (λ put. joined_more old (format report.format) (budget ++ (cost ++ (held ++ ends))) first last
    (c.in_ok-put_number_line.ensures ∙ ap (λ (n : ℕ). old ++ format n) c.from.ensures)
    (joined first budget cost held ends c.put_number_line-2.new.text.items c.put_number_line-3.new.text.items c.put_on_hand.new.text.items last
    c.in_ok-put_number_line-2.ensures c.in_ok-put_number_line-3.ensures c.in_ok-put_on_hand.ensures put)) c.put_ends.ensures
