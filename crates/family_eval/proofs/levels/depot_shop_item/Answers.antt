use Rattle.std.proofs.Common.{arith, lit<}
use Rattle.family_items.proofs.Public.{can_table}
use Rattle.family_eval.proofs.levels.depot_shop_item.Goals as goal

pub stocked-requires : goal.stocked-requires
stocked-requires g c =
    (lit< tt, (lit< tt, (lit< tt, (rw c.depot_shop.ensures.ends (can_table g.row.F c.args.pair _ _ c.requires (omega arith)), c.requires.stock_most))))
