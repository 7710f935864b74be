use Rattle.family_items.proofs.Public.{listed_is_line}
use Rattle.family_points.proofs.Public.{work_more}
use Rattle.held_work.proofs.Kept.{tables_at}
use Rattle.held_work.proofs.work.held_work.Goals as goal

pub held_tables-requires-clause-line : goal.held_tables-requires-clause-line
held_tables-requires-clause-line c = listed_is_line c.args.case.now c.line_units-lines.result.now c.line_units-lines.ensures c.loop-line.line-index (record { 0 = 0 }) c.loop-line-test.true

pub loop-line-preserved : goal.loop-line-preserved
loop-line-preserved c =
    work_more (tables_at c.args.case.now c.args.held.now.list) c.line_units-lines.result.now c.loop-line.line-index c.loop-line.work c.held_tables.result c.saturating_add-work.result c.loop-line-test.true
    c.held_tables.ensures c.saturating_add-work.ensures c.loop-line.invariant
