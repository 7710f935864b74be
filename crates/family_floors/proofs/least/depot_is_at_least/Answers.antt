use Rattle.std.proofs.Common.{refl, arith}
use Rattle.family_points.specs.Separation.{depot_points}
use Rattle.family_points.proofs.Public.{at_least_less, decides_least, decides_true}
use Rattle.family_floors.proofs.least.depot_is_at_least.Goals as goal

pub returns-then-floor-low : goal.returns-then-floor-low
returns-then-floor-low g c =
    let x = c.args.sources.now.family.now in
    let points = depot_points g.S.Score.ends x c.args.depot.now in
    decides_true c.args.price.p c.args.price.q c.args.floor points
    (at_least_less c.args.price.p c.args.price.q c.args.floor c.low_at_depot-low.result points c.low_at_depot-low.ensures (omega (arith, c.if-floor-low.true)))

pub returns : goal.returns
returns g c =
    let x = c.args.sources.now.family.now in
    decides_least c.args.price.p c.args.price.q c.args.floor c.in_ok-least.least (depot_points g.S.Score.ends x c.args.depot.now) _ c.in_ok-least.ensures refl

pub low_at_depot-low-requires-clause-sources : goal.low_at_depot-low-requires-clause-sources
low_at_depot-low-requires-clause-sources g c = c.requires.sources

pub low_at_depot-low-requires-clause-depot : goal.low_at_depot-low-requires-clause-depot
low_at_depot-low-requires-clause-depot g c = c.requires.depot

pub low_at_depot-low-requires-clause-tables : goal.low_at_depot-low-requires-clause-tables
low_at_depot-low-requires-clause-tables g c = c.requires.tables

pub low_at_depot-low-requires-clause-most_money : goal.low_at_depot-low-requires-clause-most_money
low_at_depot-low-requires-clause-most_money g c = c.requires.most_money

pub low_at_depot-low-requires-clause-price : goal.low_at_depot-low-requires-clause-price
low_at_depot-low-requires-clause-price g c = c.requires.price

pub least_at_depot-requires-clause-sources : goal.least_at_depot-requires-clause-sources
least_at_depot-requires-clause-sources g c = c.requires.sources

pub least_at_depot-requires-clause-depot : goal.least_at_depot-requires-clause-depot
least_at_depot-requires-clause-depot g c = c.requires.depot

pub least_at_depot-requires-clause-tables : goal.least_at_depot-requires-clause-tables
least_at_depot-requires-clause-tables g c = c.requires.tables

pub least_at_depot-requires-clause-most_money : goal.least_at_depot-requires-clause-most_money
least_at_depot-requires-clause-most_money g c = c.requires.most_money

pub least_at_depot-requires-clause-price : goal.least_at_depot-requires-clause-price
least_at_depot-requires-clause-price g c = c.requires.price
