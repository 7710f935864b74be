use Rattle.std.proofs.Common.{◌∙◌, ap, lit<, rules}
use Rattle.fixed_interval.specs.Ends.{InScale}
use Rattle.moment_table.specs.declared.kinds.Row.{Row}
use Rattle.moment_table.specs.Stored.{bare_row, stored_row}
use Rattle.moment_table.proofs.StoredRows.{rows_none, rows_next, bare_short}
use Rattle.moment_table.proofs.rows.bare_to.Goals as goal

pub loop-s-init : goal.loop-s-init
loop-s-init g c = rows_none g.row.F (bare_row g.row.F c.args.mean c.args.variance) c.args.tails c.in_ok-rows.rows c.in_ok-rows.ensures.stored c.in_ok-rows.ensures.tails

pub of-requires : goal.of-requires
of-requires g c =
    let s : InScale g.row.F = search rules in
    let h = bare_short g.row.F c.args.mean c.args.variance c.loop-s.s c.bare_row-row.result s.1 c.requires.mean_top c.requires.variance_top c.bare_row-row.ensures in
    (lit< tt, (lit< tt, h))

pub of-tail-requires : goal.of-tail-requires
of-tail-requires g c =
    let s : InScale g.row.F = search rules in
    let h = bare_short g.row.F c.args.mean c.args.variance c.loop-s.s c.bare_row-row.result s.1 c.requires.mean_top c.requires.variance_top c.bare_row-row.ensures in
    (lit< tt, (lit< tt, h.tail))

pub loop-s-preserved : goal.loop-s-preserved
loop-s-preserved g c =
    rows_next g.row.F (bare_row g.row.F c.args.mean c.args.variance) c.loop-s.s c.args.tails c.loop-s.rows c.push.new.self c.of.result c.of-tail.result
    c.loop-s.invariant c.in_ok-push.ensures.stored c.in_ok-push.ensures.tails (c.of.ensures ∙ ap (λ (z : Row g.row.F). stored_row z) c.bare_row-row.ensures)
    (c.of-tail.ensures ∙ ap (λ (z : Row g.row.F). z.tail) c.bare_row-row.ensures)
