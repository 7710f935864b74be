use Rattle.std.proofs.Common.{◌≡◌, ℕ, ◌<◌, ◌∙◌, List, drop, length, sym, ap, subst, arith}
use Rattle.std.proofs.lemmas.Result.{IfOk-weaker}
use Rattle.family_points.specs.Inputs.{AreShopsAt, IsAt, box_points, shop_low}
use Rattle.family_points.specs.Points.{HasUpper}
use Rattle.family_points.specs.Separation.{depot_points}
use Rattle.family_points.proofs.Public.{low_some}
use Rattle.family_rows.specs.Tabled.{AreTables}
use Rattle.family_floors.proofs.Uppers.{low_is_at, low_shops_at, upper_of_box}
use Rattle.family_floors.proofs.upper.upper_at_least.Goals as goal

pub shops_of-shops-requires : goal.shops_of-shops-requires
shops_of-shops-requires g c =
    let x = c.args.sources.now.family.now in
    let valid = c.invariant.ensures.valid in
    let some = valid.valid.frame.fewest_sites in
    subst (λ (v : List ℕ). 0 < length v) (sym c.low-depot.ensures) (low_some x valid 0 (omega (arith, some)))

pub depot_tables-requires-clause-depot : goal.depot_tables-requires-clause-depot
depot_tables-requires-clause-depot g c =
    let x = c.args.sources.now.family.now in
    let valid = c.invariant.ensures.valid in
    let some = valid.valid.frame.fewest_sites in
    let is : c.shops_of-shops.result.now ≡ shop_low x 0 = c.shops_of-shops.ensures ∙ ap (drop 1) c.low-depot.ensures in
    subst (AreShopsAt x 0) (sym is) (low_shops_at x valid 0 (omega (arith, some)))

pub put-requires-clause-depot : goal.put-requires-clause-depot
put-requires-clause-depot g c =
    let x = c.args.sources.now.family.now in
    let valid = c.invariant.ensures.valid in
    let some = valid.valid.frame.fewest_sites in
    let is : c.shops_of-shops.result.now ≡ shop_low x 0 = c.shops_of-shops.ensures ∙ ap (drop 1) c.low-depot.ensures in
    subst (AreShopsAt x 0) (sym is) (low_shops_at x valid 0 (omega (arith, some)))

pub put-requires-clause-sources : goal.put-requires-clause-sources
put-requires-clause-sources g c = c.requires.sources

pub depot_tables-requires-clause-shops : goal.depot_tables-requires-clause-shops
depot_tables-requires-clause-shops g c = c.in_ok-put.ensures

pub upper_at_depot-requires-clause-depot : goal.upper_at_depot-requires-clause-depot
upper_at_depot-requires-clause-depot g c =
    let x = c.args.sources.now.family.now in
    let valid = c.invariant.ensures.valid in
    let some = valid.valid.frame.fewest_sites in
    subst (IsAt x 0) (sym c.low-depot.ensures) (low_is_at x valid 0 (omega (arith, some)))

pub returns-clause-upper : goal.returns-clause-upper
returns-clause-upper g c =
    let x = c.args.sources.now.family.now in
    IfOk-weaker c.upper_at_depot.result (HasUpper (depot_points g.S.Score.ends x c.low-depot.result.now))
    (HasUpper (box_points g.S.Score.ends x))
    (λ hi upper. upper_of_box x c.invariant.ensures.valid g.S.Score.ends hi
    (subst (λ (v : List ℕ). HasUpper (depot_points g.S.Score.ends x v) hi) c.low-depot.ensures upper)) c.upper_at_depot.ensures.upper

pub low-depot-requires : goal.low-depot-requires
low-depot-requires g c = let some = c.invariant.ensures.valid.valid.frame.fewest_sites in omega (arith, some)

pub depot_tables-requires-clause-sources : goal.depot_tables-requires-clause-sources
depot_tables-requires-clause-sources g c = c.requires.sources

pub upper_at_depot-requires-clause-sources : goal.upper_at_depot-requires-clause-sources
upper_at_depot-requires-clause-sources g c = c.requires.sources

pub returns-clause-most : goal.returns-clause-most
returns-clause-most g c = c.upper_at_depot.ensures.most

pub upper_at_depot-requires-clause-tables : goal.upper_at_depot-requires-clause-tables
upper_at_depot-requires-clause-tables g c =
    subst (λ (d : List ℕ). AreTables c.args.sources.now.family.now d c.in_ok-tables.tables) c.shops_of-shops.ensures c.in_ok-tables.ensures
