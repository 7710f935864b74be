use Rattle.std.proofs.Common.{lit<, length}
use Rattle.depot_pipeline.specs.Profile.{feed_at, mean_part}
use Rattle.family_items.specs.Inputs.{HasTable}
use Rattle.family_items.proofs.Public.{added_least}
use Rattle.family_numbers.proofs.FromNumbers.{can_rows}
use Rattle.family_numbers.proofs.pair_tables.depot_line_table.Goals as goal

pub table_to-requires : goal.table_to-requires
table_to-requires g c =
    let can : HasTable g.row.F c.depot_line-moments.result = rw c.depot_line-moments.ensures.ends
    (can_rows g.row.F c.args.pair _ _ c.requires.pair
    (added_least c.args.pair.direct (λ k. mean_part g.row.F (feed_at c.args.feeds.now k)) (length c.args.feeds.now))) in
    (lit< tt, (lit< tt, (lit< tt, (can, c.requires.pair.limit_most))))
