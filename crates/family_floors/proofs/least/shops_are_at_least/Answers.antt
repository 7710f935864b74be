use Rattle.std.proofs.Common.{ℕ, ◌∷◌, List, IfOk, drop, length, flat_map, sym, ap, ◌∙◌, subst, arith}
use Rattle.hull.specs.declared.point.Point.{Point}
use Rattle.family_points.specs.Separation.{depot_points}
use Rattle.family_points.specs.Inputs.{AreShopsAt, line_stocks}
use Rattle.family_points.specs.Least.{Decides}
use Rattle.family_rows.specs.Tabled.{AreTables}
use Rattle.family_floors.proofs.least.shops_are_at_least.Goals as goal

pub stocks_at-requires : goal.stocks_at-requires
stocks_at-requires g c = c.requires.number

pub shops_of-shops-requires : goal.shops_of-shops-requires
shops_of-shops-requires g c = omega (arith, ap length (c.as_slice.ensures.value ∙ c.in_ok-stocks.ensures.stocks))

pub depot_tables-requires-clause-sources : goal.depot_tables-requires-clause-sources
depot_tables-requires-clause-sources g c = c.requires.sources

pub depot_tables-requires-clause-depot : goal.depot_tables-requires-clause-depot
depot_tables-requires-clause-depot g c =
    subst (AreShopsAt c.args.sources.now.family.now 0) (sym (c.shops_of-shops.ensures ∙ ap (drop 1) c.as_slice.ensures.value)) c.in_ok-stocks.ensures.shops

pub put-requires-clause-depot : goal.put-requires-clause-depot
put-requires-clause-depot g c =
    subst (AreShopsAt c.args.sources.now.family.now 0) (sym (c.shops_of-shops.ensures ∙ ap (drop 1) c.as_slice.ensures.value)) c.in_ok-stocks.ensures.shops

pub put-requires-clause-sources : goal.put-requires-clause-sources
put-requires-clause-sources g c = c.requires.sources

pub depot_tables-requires-clause-shops : goal.depot_tables-requires-clause-shops
depot_tables-requires-clause-shops g c = c.in_ok-put.ensures

pub are_at_least-requires-clause-sources : goal.are_at_least-requires-clause-sources
are_at_least-requires-clause-sources g c = c.requires.sources

pub are_at_least-requires-clause-most_money : goal.are_at_least-requires-clause-most_money
are_at_least-requires-clause-most_money g c = c.requires.most_money

pub are_at_least-requires-clause-price : goal.are_at_least-requires-clause-price
are_at_least-requires-clause-price g c = c.requires.price

pub are_at_least-requires-clause-some : goal.are_at_least-requires-clause-some
are_at_least-requires-clause-some g c = omega (arith, ap length (c.as_mut_slice-at_depot.ensures.value ∙ c.in_ok-stocks.ensures.stocks))

pub are_at_least-requires-clause-shops : goal.are_at_least-requires-clause-shops
are_at_least-requires-clause-shops g c = subst (AreShopsAt c.args.sources.now.family.now 0) (sym (ap (drop 1) c.as_mut_slice-at_depot.ensures.value)) c.in_ok-stocks.ensures.shops

pub are_at_least-requires-clause-tables : goal.are_at_least-requires-clause-tables
are_at_least-requires-clause-tables g c =
    subst (λ (l : List ℕ). AreTables c.args.sources.now.family.now l c.in_ok-tables.tables)
    (c.shops_of-shops.ensures ∙ ap (drop 1) (c.as_slice.ensures.value ∙ sym c.as_mut_slice-at_depot.ensures.value)) c.in_ok-tables.ensures

pub returns : goal.returns
returns g c =
    let x = c.args.sources.now.family.now in
    let own : List ℕ → List Point = λ d. flat_map (λ s. depot_points g.S.Score.ends x (s ∷ d)) (line_stocks x 0) in
    subst (λ (d : List ℕ). IfOk c.are_at_least.result (Decides c.args.price.p c.args.price.q c.args.floor (own d)))
    (ap (drop 1) (c.as_mut_slice-at_depot.ensures.value ∙ c.in_ok-stocks.ensures.stocks)) c.are_at_least.ensures
