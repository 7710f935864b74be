use Rattle.std.specs.Prelude.{◌++◌, codes}
use Rattle.std.specs.Fmt.{decimal}
use Rattle.list_laws.proofs.Public.{joined_more}
use Rattle.plan_report.specs.Texts.{down_text, interval_text, line, up_text}
use Rattle.plan_report.proofs.Chains.{after, joined}
use Rattle.plan_report.proofs.summary.Summary.put_plan.Goals as goal

pub returns : goal.returns
returns c =
    let summary = c.args.self.now in
    let old = c.args.text.now.items in
    let budget = line (codes "budget") (decimal summary.budget) in
    let cost = line (codes "cost") (decimal summary.cost) in
    let total = line (codes "total") (interval_text 48 summary.total) in
    let bound = line (codes "bound") (down_text summary.bound) in
    let gap = line (codes "gap") (up_text summary.gap) in
    let first = c.put_number_line.new.text.items in
    let last = c.put_up_line.new.text.items in
    after c.put_up_line.result _ _
    (λ put. joined_more old budget (cost ++ (total ++ (bound ++ gap))) first last c.in_ok-put_number_line.ensures
    (joined first cost total bound gap c.put_number_line-2.new.text.items c.put_span_line.new.text.items c.put_down_line.new.text.items last
    c.in_ok-put_number_line-2.ensures c.in_ok-put_span_line.ensures c.in_ok-put_down_line.ensures put)) c.put_up_line.ensures
