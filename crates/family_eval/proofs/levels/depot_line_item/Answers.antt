use Rattle.std.proofs.Common.{lit<, length}
use Rattle.depot_pipeline.specs.Profile.{feed_at, mean_part}
use Rattle.family_items.proofs.Public.{added_least, can_table}
use Rattle.family_eval.proofs.levels.depot_line_item.Goals as goal

pub stocked-requires : goal.stocked-requires
stocked-requires g c = (
  lit< tt,
  (
    lit< tt,
    (
      lit< tt,
      (
        rw c.depot_line.ensures.ends
            (can_table g.row.F c.args.pair _ _ c.requires.pair
            (added_least c.args.pair.direct (λ k. mean_part g.row.F (feed_at c.args.feeds.now k)) (length c.args.feeds.now))),
        c.requires.pair.stock_most,
      ),
    ),
  ),
)
