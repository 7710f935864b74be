use Rattle.std.proofs.Common.{◌≡◌, ◌-◌, ◌+◌, ◌≤◌, ◌∙◌, suc, map, ap, ap₂, arith, lit<}
use Rattle.std.specs.List.{range_with_len}
use Rattle.list_laws.proofs.Public.{mapped_from}
use Rattle.fixed_interval.specs.Ends.{Ends}
use Rattle.moment_table.specs.Rows.{TableRows, at_stock}
use Rattle.depot_pipeline.specs.declared.Feed.{Feed}
use Rattle.base_pipeline.specs.Profile.{base_shop_ends}
use Rattle.family_numbers.specs.declared.numbers.PairNumbers.{PairNumbers}
use Rattle.family_numbers.specs.Numbers.{base_shop_table, depot_shop_row, feed_from, table_of}
use Rattle.family_numbers.proofs.Served.{feed_is_small, depot_shop_small}
use Rattle.family_numbers.proofs.base_shops.by_stock.Goals as goal

pub base_shop_table-requires : goal.base_shop_table-requires
base_shop_table-requires g c =
    let few : c.loop-s.s ≤ 63 = omega (arith, c.loop-s-test.true, c.requires.most) in
    let feed : c.feed_from-feed.result ≡ feed_from g.row.F c.pair-pair.result.share (depot_shop_row g.row.F c.args.numbers.now c.args.shop c.loop-s.s) =
    c.feed_from-feed.ensures ∙ ap (λ (t : TableRows g.row.F). feed_from g.row.F c.pair-pair.result.share (at_stock t.rows c.loop-s.s)) c.requires.depot in (
      lit< tt,
      (
        lit< tt,
        (
          lit< tt,
          (
            lit< tt,
            (
              c.pair-pair.ensures.valid,
              feed_is_small g.row.F c.pair-pair.result.share _ c.feed_from-feed.result feed c.pair-pair.ensures.valid.share_most
                  (depot_shop_small g.row.F c.args.numbers.now c.invariant.ensures.valid c.args.shop c.loop-s.s c.requires.shop few),
            ),
          ),
        ),
      ),
    )

pub loop-s-preserved : goal.loop-s-preserved
loop-s-preserved g c =
    mapped_from (λ s. base_shop_table g.row.F c.args.numbers.now c.args.shop c.args.site.0 s) c.args.low c.loop-s.s c.loop-s.made.items c.push.new.self.items
    c.in_ok-table.table c.loop-s.auto.s c.in_ok-push.ensures.items c.loop-s.invariant
    (c.in_ok-table.ensures
    ∙ ap₂ (λ (w : PairNumbers g.row.F) (z : Feed g.row.F). table_of g.row.F (base_shop_ends g.row.F w.direct w.cap z) w.limit) c.pair-pair.ensures.is
    (c.feed_from-feed.ensures
    ∙ ap₂ (λ (share : Ends) (t : TableRows g.row.F). feed_from g.row.F share (at_stock t.rows c.loop-s.s))
    (ap (λ (w : PairNumbers g.row.F). w.share) c.pair-pair.ensures.is) c.requires.depot))

pub returns : goal.returns
returns g c =
    let end : c.loop-s.s ≤ c.args.high + 1 = c.loop-s.auto.s-end (omega (arith, c.requires.order)) in
    let last : c.loop-s.s - c.args.low ≡ suc c.args.high - c.args.low = omega (arith, c.loop-s-test.false, end) in
    c.of.ensures ∙ c.loop-s.invariant ∙ ap (λ n. map (λ s. base_shop_table g.row.F c.args.numbers.now c.args.shop c.args.site.0 s) (range_with_len c.args.low n)) last
