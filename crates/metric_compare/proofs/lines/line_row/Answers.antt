use Rattle.metric_compare.proofs.lines.line_row.Goals as goal

pub row_with-requires-clause-units : goal.row_with-requires-clause-units
row_with-requires-clause-units c = c.shop_units.ensures
