use Rattle.metric_compare.specs.Texts.{compared_text, totals_text}
use Rattle.metric_compare.specs.declared.report.CompareItem.{CompareItem}
use Rattle.plan_report.specs.Texts.{line}
use Rattle.std.specs.List.{flat_map}
use Rattle.std.specs.Fmt.{decimal}
use Rattle.std.specs.Prelude.{codes}
use Rattle.std.proofs.Common.{◌≡◌, ℕ, List, ◌++◌, ◌∙◌, ap}
use Rattle.list_laws.proofs.Public.{joined_more}
use Rattle.metric_compare.proofs.report.CompareReport.text.Goals as goal

pub returns : goal.returns
returns c =
    let report = c.args.self.now in
    let items = flat_map compared_text report.items in
    let totals = totals_text report in
    let first : c.put_number_line.new.text.items ≡ line (codes "compare") (decimal 48) =
    c.in_ok-put_number_line.ensures ∙ ap (λ (start : List ℕ). start ++ line (codes "compare") (decimal 48)) c.new-text.ensures.items in
    let second : c.put_items.new.text.items ≡ c.put_number_line.new.text.items ++ items =
    c.in_ok-put_items.ensures ∙ ap (λ (xs : List CompareItem). c.put_number_line.new.text.items ++ flat_map compared_text xs) c.as_slice.ensures in
    joined_more c.put_number_line.new.text.items items totals c.put_items.new.text.items c.put_totals.new.text.items second c.in_ok-put_totals.ensures
    ∙ ap (λ (start : List ℕ). start ++ (items ++ totals)) first
