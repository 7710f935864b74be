use Rattle.std.proofs.Common.{arith}
use Rattle.demand_rates.proofs.DepotFacts.{demands_count, line_depot, shop_depot}
use Rattle.demand_rates.proofs.pairs.shop_rates.Goals as goal

pub bounds-demands-shop : goal.bounds-demands-shop
bounds-demands-shop c = omega (arith, demands_count c.args.case.now c.args.demands.now c.requires.demands, c.requires.shop)

pub bounds-demands-line : goal.bounds-demands-line
bounds-demands-line c = omega (arith, demands_count c.args.case.now c.args.demands.now c.requires.demands, c.requires.line)

pub depot_shop-requires-clause-line_depot : goal.depot_shop-requires-clause-line_depot
depot_shop-requires-clause-line_depot c = line_depot c.args.case.now c.args.demands.now c.args.line.0 c.requires.demands c.requires.line c.requires.line_unit

pub depot_shop-requires-clause-depot : goal.depot_shop-requires-clause-depot
depot_shop-requires-clause-depot c =
    shop_depot c.args.case.now c.args.demands.now c.args.shop.0 c.args.line.0 c.requires.demands c.requires.shop c.requires.own

pub base_shop-requires-clause-depot : goal.base_shop-requires-clause-depot
base_shop-requires-clause-depot c =
    shop_depot c.args.case.now c.args.demands.now c.args.shop.0 c.args.line.0 c.requires.demands c.requires.shop c.requires.own
