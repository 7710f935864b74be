use Rattle.family_points.specs.Counts.{tables_of}
use Rattle.family_items.proofs.Public.{listed_is_line}
use Rattle.family_points.proofs.Counting.{work_more}
use Rattle.family_points.proofs.counts.work.Goals as goal

pub tables-requires : goal.tables-requires
tables-requires c = listed_is_line c.args.case.now c.line_units-lines.result.now c.line_units-lines.ensures c.loop-line.line-index (record { 0 = 0 }) c.loop-line-test.true

pub loop-line-preserved : goal.loop-line-preserved
loop-line-preserved c =
    work_more (tables_of c.args.case.now) c.line_units-lines.result.now c.loop-line.line-index c.loop-line.work c.tables.result c.saturating_add-work.result c.loop-line-test.true c.tables.ensures
    c.saturating_add-work.ensures c.loop-line.invariant
