use Rattle.std.proofs.Common.{ap, ◌∙◌, sym, rules}
use Rattle.csv_tables.specs.Rates.{told}
use Rattle.csv_tables.proofs.LineFacts.{line_good, taken}
use Rattle.csv_tables.proofs.lines.rate_line.Goals as goal

pub returns-in-Ok-clause-row : goal.returns-in-Ok-clause-row
returns-in-Ok-clause-row c = sym (ap told c.in-Ok.is) ∙ taken c.args.frame.now c.args.line.now _ _ _ _ _ _ _ _ _ _ _ _ _ c.rate_in.result c.of-left.ensures
    c.in_ok-part.ensures c.in_ok-site.ensures c.in_ok-demand.ensures c.in_ok-repair_here.ensures c.in_ok-share.ensures c.in_ok-repair_days.ensures
    (search rules) c.rate_in.ensures

pub returns-in-Ok-clause-fields : goal.returns-in-Ok-clause-fields
returns-in-Ok-clause-fields c = line_good c.args.frame.now c.args.line.now c.in-Ok.row (sym (ap told c.in-Ok.is) ∙ taken c.args.frame.now c.args.line.now _ _ _ _ _ _ _ _ _ _ _ _ _ c.rate_in.result c.of-left.ensures
    c.in_ok-part.ensures c.in_ok-site.ensures c.in_ok-demand.ensures c.in_ok-repair_here.ensures c.in_ok-share.ensures c.in_ok-repair_days.ensures
    (search rules) c.rate_in.ensures)

pub returns-in-Err-clause-row : goal.returns-in-Err-clause-row
returns-in-Err-clause-row c = sym (ap told c.in-Err.is) ∙ taken c.args.frame.now c.args.line.now _ _ _ _ _ _ _ _ _ _ _ _ _ c.rate_in.result c.of-left.ensures
    c.in_ok-part.ensures c.in_ok-site.ensures c.in_ok-demand.ensures c.in_ok-repair_here.ensures c.in_ok-share.ensures c.in_ok-repair_days.ensures
    (search rules) c.rate_in.ensures
