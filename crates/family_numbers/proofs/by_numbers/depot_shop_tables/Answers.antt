use Rattle.std.proofs.Common.{◌∙◌, ap}
use Rattle.list_laws.proofs.Public.{mapped_more}
use Rattle.depot_pipeline.specs.Profile.{depot_shop_ends}
use Rattle.family_numbers.specs.declared.numbers.PairNumbers.{PairNumbers}
use Rattle.family_numbers.specs.Numbers.{depot_shop_table, table_of}
use Rattle.family_numbers.proofs.by_numbers.depot_shop_tables.Goals as goal

pub loop-i-preserved : goal.loop-i-preserved
loop-i-preserved g c =
    mapped_more (λ i. depot_shop_table g.row.F c.args.numbers.now i) c.loop-i.i c.loop-i.tables.items c.push.new.self.items c.in_ok-table.table
    c.in_ok-push.ensures.items c.loop-i.invariant
    (c.in_ok-table.ensures ∙ ap (λ (w : PairNumbers g.row.F). table_of g.row.F (depot_shop_ends g.row.F w.direct w.cap) w.limit) c.pair.ensures.is)
