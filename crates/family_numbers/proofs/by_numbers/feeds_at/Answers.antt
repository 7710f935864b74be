use Rattle.std.proofs.Common.{◌+◌, ◌-◌, ◌∙◌, ap, ap₂, length}
use Rattle.list_laws.proofs.Public.{mapped_more}
use Rattle.fixed_interval.specs.Ends.{Ends}
use Rattle.moment_table.specs.Rows.{TableRows, at_stock}
use Rattle.family_numbers.specs.declared.numbers.PairNumbers.{PairNumbers}
use Rattle.family_numbers.specs.Numbers.{depot_shop_row, depot_shop_table, feed_from, nth_stock, pair_at}
use Rattle.family_numbers.proofs.Served.{count_of, read_of}
use Rattle.family_numbers.proofs.by_numbers.feeds_at.Goals as goal

pub bounds-tables-i : goal.bounds-tables-i
bounds-tables-i g c =
    count_of (λ i. depot_shop_table g.row.F c.args.numbers.now i) (length c.args.numbers.now.parts - 1) c.loop-i.i c.args.tables.now c.requires.tables
    (rw c.shops-i-end.ensures.shops at c.loop-i-test.true)

pub loop-i-preserved : goal.loop-i-preserved
loop-i-preserved g c =
    mapped_more (λ i. feed_from g.row.F (pair_at c.args.numbers.now (i + 1) 0).share (depot_shop_row g.row.F c.args.numbers.now i (nth_stock c.args.depot.now i)))
    c.loop-i.i c.loop-i.feeds.items c.push.new.self.items c.feed_from.result c.in_ok-push.ensures.items c.loop-i.invariant
    (c.feed_from.ensures
    ∙ ap₂ (λ (share : Ends) (t : TableRows g.row.F). feed_from g.row.F share (at_stock t.rows (nth_stock c.args.depot.now c.loop-i.i)))
    (ap (λ (w : PairNumbers g.row.F). w.share) c.pair-share.ensures.is)
    (read_of (λ i. depot_shop_table g.row.F c.args.numbers.now i) (length c.args.numbers.now.parts - 1) c.loop-i.i c.args.tables.now c.index-tables-i.result
    c.requires.tables (rw c.shops-i-end.ensures.shops at c.loop-i-test.true) c.index-tables-i.is))
