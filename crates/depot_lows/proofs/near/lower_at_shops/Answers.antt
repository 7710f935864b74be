use Rattle.std.proofs.Common.{ℕ, List, drop, length, sym, ap, ◌∙◌, subst, arith}
use Rattle.family_points.specs.Inputs.{AreShopsAt}
use Rattle.family_rows.specs.Tabled.{AreTables}
use Rattle.depot_lows.proofs.near.lower_at_shops.Goals as goal

pub stocks_at-requires : goal.stocks_at-requires
stocks_at-requires g c = c.requires.number

pub shops_of-shops-requires : goal.shops_of-shops-requires
shops_of-shops-requires g c = omega (arith, ap length (c.as_slice.ensures.value ∙ c.in_ok-stocks.ensures.stocks))

pub depot_tables-requires-clause-sources : goal.depot_tables-requires-clause-sources
depot_tables-requires-clause-sources g c = c.requires.sources

pub depot_tables-requires-clause-depot : goal.depot_tables-requires-clause-depot
depot_tables-requires-clause-depot g c =
    subst (AreShopsAt c.args.sources.now.family.now 0) (sym (c.shops_of-shops.ensures ∙ ap (drop 1) c.as_slice.ensures.value)) c.in_ok-stocks.ensures.shops

pub put-requires-clause-depot : goal.put-requires-clause-depot
put-requires-clause-depot g c =
    subst (AreShopsAt c.args.sources.now.family.now 0) (sym (c.shops_of-shops.ensures ∙ ap (drop 1) c.as_slice.ensures.value)) c.in_ok-stocks.ensures.shops

pub put-requires-clause-sources : goal.put-requires-clause-sources
put-requires-clause-sources g c = c.requires.sources

pub depot_tables-requires-clause-shops : goal.depot_tables-requires-clause-shops
depot_tables-requires-clause-shops g c = c.in_ok-put.ensures

pub lower_at_lines-requires-clause-sources : goal.lower_at_lines-requires-clause-sources
lower_at_lines-requires-clause-sources g c = c.requires.sources

pub lower_at_lines-requires-clause-some : goal.lower_at_lines-requires-clause-some
lower_at_lines-requires-clause-some g c = omega (arith, ap length (c.as_mut_slice-at_depot.ensures.value ∙ c.in_ok-stocks.ensures.stocks))

pub lower_at_lines-requires-clause-shops : goal.lower_at_lines-requires-clause-shops
lower_at_lines-requires-clause-shops g c = subst (AreShopsAt c.args.sources.now.family.now 0) (sym (ap (drop 1) c.as_mut_slice-at_depot.ensures.value)) c.in_ok-stocks.ensures.shops

pub lower_at_lines-requires-clause-tables : goal.lower_at_lines-requires-clause-tables
lower_at_lines-requires-clause-tables g c =
    subst (λ (l : List ℕ). AreTables c.args.sources.now.family.now l c.in_ok-tables.tables)
    (c.shops_of-shops.ensures ∙ ap (drop 1) (c.as_slice.ensures.value ∙ sym c.as_mut_slice-at_depot.ensures.value)) c.in_ok-tables.ensures

pub lower_at_lines-requires-clause-low : goal.lower_at_lines-requires-clause-low
lower_at_lines-requires-clause-low g c = c.requires.low

pub lower_at_lines-requires-clause-high : goal.lower_at_lines-requires-clause-high
lower_at_lines-requires-clause-high g c = c.requires.high
