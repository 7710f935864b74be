use Rattle.std.proofs.Common.{ℕ, List, IfOk, drop, length, sym, ap, ◌∙◌, subst, arith}
use Rattle.family_points.specs.Inputs.{AreShopsAt}
use Rattle.family_points.specs.Separation.{shop_points}
use Rattle.family_rows.specs.Tabled.{AreTables}
use Rattle.family_bases.specs.Joining.{vertices_of}
use Rattle.family_parts.specs.Growing.{Grows}
use Rattle.family_parts.proofs.joining.grow_with_shops.Goals as goal

pub stocks_at-requires : goal.stocks_at-requires
stocks_at-requires g c = c.requires.number

pub shops_of-shops-requires : goal.shops_of-shops-requires
shops_of-shops-requires g c = omega (arith, ap length (c.as_slice.ensures.value ∙ c.in_ok-stocks.ensures.stocks))

pub depot_tables-requires-clause-sources : goal.depot_tables-requires-clause-sources
depot_tables-requires-clause-sources g c = c.requires.sources

pub depot_tables-requires-clause-depot : goal.depot_tables-requires-clause-depot
depot_tables-requires-clause-depot g c =
    subst (AreShopsAt c.args.sources.now.family.now 0) (sym (c.shops_of-shops.ensures ∙ ap (drop 1) c.as_slice.ensures.value)) c.in_ok-stocks.ensures.shops

pub put-requires-clause-depot : goal.put-requires-clause-depot
put-requires-clause-depot g c =
    subst (AreShopsAt c.args.sources.now.family.now 0) (sym (c.shops_of-shops.ensures ∙ ap (drop 1) c.as_slice.ensures.value)) c.in_ok-stocks.ensures.shops

pub put-requires-clause-sources : goal.put-requires-clause-sources
put-requires-clause-sources g c = c.requires.sources

pub depot_tables-requires-clause-shops : goal.depot_tables-requires-clause-shops
depot_tables-requires-clause-shops g c = c.in_ok-put.ensures

pub grow_with_lines-requires-clause-sources : goal.grow_with_lines-requires-clause-sources
grow_with_lines-requires-clause-sources g c = c.requires.sources

pub grow_with_lines-requires-clause-some : goal.grow_with_lines-requires-clause-some
grow_with_lines-requires-clause-some g c = omega (arith, ap length (c.as_mut_slice-at_depot.ensures.value ∙ c.in_ok-stocks.ensures.stocks))

pub grow_with_lines-requires-clause-shops : goal.grow_with_lines-requires-clause-shops
grow_with_lines-requires-clause-shops g c = subst (AreShopsAt c.args.sources.now.family.now 0) (sym (ap (drop 1) c.as_mut_slice-at_depot.ensures.value)) c.in_ok-stocks.ensures.shops

pub grow_with_lines-requires-clause-tables : goal.grow_with_lines-requires-clause-tables
grow_with_lines-requires-clause-tables g c =
    subst (λ (l : List ℕ). AreTables c.args.sources.now.family.now l c.in_ok-tables.tables)
    (c.shops_of-shops.ensures ∙ ap (drop 1) (c.as_slice.ensures.value ∙ sym c.as_mut_slice-at_depot.ensures.value)) c.in_ok-tables.ensures

pub grow_with_lines-requires-clause-low : goal.grow_with_lines-requires-clause-low
grow_with_lines-requires-clause-low g c = c.requires.low

pub grow_with_lines-requires-clause-high : goal.grow_with_lines-requires-clause-high
grow_with_lines-requires-clause-high g c = c.requires.high

pub grow_with_lines-requires-clause-room : goal.grow_with_lines-requires-clause-room
grow_with_lines-requires-clause-room g c = c.requires.room

pub grow_with_lines-requires-clause-widths : goal.grow_with_lines-requires-clause-widths
grow_with_lines-requires-clause-widths g c = c.requires.widths

pub grow_with_lines-requires-clause-work : goal.grow_with_lines-requires-clause-work
grow_with_lines-requires-clause-work g c = c.requires.work

pub grow_with_lines-requires-clause-window : goal.grow_with_lines-requires-clause-window
grow_with_lines-requires-clause-window g c = c.requires.window

pub returns-clause-part : goal.returns-clause-part
returns-clause-part g c =
    subst (λ (shops : List ℕ). IfOk c.grow_with_lines.result (λ _. Grows c.args.low c.args.high (shop_points g.S.Score.ends c.args.sources.now.family.now shops) (vertices_of c.args.part.now) c.args.beyond.now
    (vertices_of c.grow_with_lines.new.part) c.grow_with_lines.new.beyond))
    (ap (drop 1) (c.as_mut_slice-at_depot.ensures.value ∙ c.in_ok-stocks.ensures.stocks)) c.grow_with_lines.ensures.part

pub returns-clause-few : goal.returns-clause-few
returns-clause-few g c = c.grow_with_lines.ensures.few

pub returns-clause-widths : goal.returns-clause-widths
returns-clause-widths g c = c.grow_with_lines.ensures.widths

pub returns-clause-work : goal.returns-clause-work
returns-clause-work g c = c.grow_with_lines.ensures.work
