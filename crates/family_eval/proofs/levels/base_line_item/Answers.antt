use Rattle.std.proofs.Common.{arith, lit<, length}
use Rattle.fixed_interval.specs.Ends.{ends_add}
use Rattle.depot_pipeline.specs.Profile.{mean_part}
use Rattle.base_pipeline.specs.Profile.{delay_at}
use Rattle.family_items.proofs.Public.{added_least, can_table}
use Rattle.family_eval.proofs.levels.base_line_item.Goals as goal

pub stocked-requires : goal.stocked-requires
stocked-requires g c =
    let first = ends_add c.args.pair.direct (mean_part g.row.F c.args.depot) in (
      lit< tt,
      (
        lit< tt,
        (
          lit< tt,
          (
            rw c.base_line.ensures.ends
                (can_table g.row.F c.args.pair _ _ c.requires.pair
                (omega (arith, added_least (ends_add c.args.pair.direct (mean_part g.row.F c.args.depot)) (λ k. (delay_at c.args.shops.now k).backorders) (length c.args.shops.now)))),
            c.requires.pair.stock_most,
          ),
        ),
      ),
    )
