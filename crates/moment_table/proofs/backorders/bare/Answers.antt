use Rattle.std.proofs.Common.{ap, ◌∙◌, lit<, rules}
use Rattle.moment_table.specs.declared.kinds.Row.{Row}
use Rattle.moment_table.specs.Stored.{bare_row}
use Rattle.fixed_interval.specs.Ends.{InScale}
use Rattle.moment_table.proofs.StoredRows.{bare_short}
use Rattle.moment_table.proofs.Steps.{listed_none, listed_next}
use Rattle.moment_table.proofs.backorders.bare.Goals as goal

pub loop-s-init : goal.loop-s-init
loop-s-init g c = listed_none (λ s. (bare_row g.row.F c.args.mean c.args.variance s).ebo) _ c.clear.ensures.items

pub loop-s-preserved : goal.loop-s-preserved
loop-s-preserved g c = rw c.in_ok-push.ensures.items
    (listed_next (λ s. (bare_row g.row.F c.args.mean c.args.variance s).ebo) c.loop-s.s c.loop-s.found.items _ c.loop-s.invariant (c.of.ensures ∙ ap (λ (r : Row g.row.F). r.ebo) c.bare_row-row.ensures))

pub of-requires : goal.of-requires
of-requires g c =
    let s : InScale g.row.F = search rules in
    let h = bare_short g.row.F c.args.mean c.args.variance c.loop-s.s c.bare_row-row.result s.1 c.requires.mean_top c.requires.variance_top c.bare_row-row.ensures in
    (lit< tt, (lit< tt, h.ebo))
