use Rattle.std.proofs.Common.{◌≡◌, ◌-◌, ◌+◌, ◌<◌, ◌≤◌, ◌∙◌, List, lit<, subst, sym, arith, ap, length}
use Rattle.std.proofs.lemmas.List.FromFn.{length-map-range_with_len}
use Rattle.std.specs.List.{All}
use Rattle.depot_pipeline.specs.declared.Feed.{Feed}
use Rattle.depot_pipeline.specs.Exact.{IsSmallFeed}
use Rattle.family_numbers.specs.Numbers.{nth_stock, depot_feeds}
use Rattle.family_tables.proofs.Keyed.{base_keyed}
use Rattle.family_numbers.proofs.Public.{depot_feeds_small, depot_shop_small, feed_is_small}
use Rattle.family_tables.proofs.making.pipeline_of.Goals as goal

pub depot_line-requires : goal.depot_line-requires
depot_line-requires g c =
    let x = c.args.numbers.now in
    let stocks = c.args.key.now.stocks in
    let feeds : c.as_slice-then-key-eq0.result.now ≡ depot_feeds g.row.F x stocks =
    c.as_slice-then-key-eq0.ensures.value ∙ c.in_ok-feeds.ensures ∙ ap (depot_feeds g.row.F x) c.as_slice.ensures in
    let are = c.invariant.ensures.valid in
    let count = ap (λ (v : List (Feed g.row.F)). length v) feeds ∙ length-map-range_with_len _ 0 (length x.parts - 1) in (
      lit< tt,
      (
        lit< tt,
        (
          lit< tt,
          (
            c.pair-pair.ensures.valid.direct_most,
            (
              omega (arith, count, are.few),
              subst (All (IsSmallFeed g.row.F)) (sym feeds) (depot_feeds_small g.row.F x are stocks c.requires.key.stocks (c.requires.key.depot c.if-key-eq0.true).1),
            ),
          ),
        ),
      ),
    )

pub base_shop-requires : goal.base_shop-requires
base_shop-requires g c =
    let x = c.args.numbers.now in
    let are = c.invariant.ensures.valid in
    let p = c.args.key.now.place in
    let inside : p - 1 < length x.parts - 1 = omega (arith, c.requires.key.place, c.if-key-eq0.false) in
    let one = c.requires.key.base (omega (arith, c.if-key-eq0.false)) (omega (arith, c.if-key-eq0-2.false)) in
    let few : nth_stock c.as_slice-else-key-eq0-2.result.now 0 ≤ 63 =
    subst (λ v. nth_stock v 0 ≤ 63) (sym c.as_slice-else-key-eq0-2.ensures) (c.requires.key.stocks 0 0 (omega (arith, one))) in (
      lit< tt,
      (
        lit< tt,
        (
          lit< tt,
          (
            c.pair-pair.ensures.valid.direct_most,
            feed_is_small g.row.F _ _ c.in_ok-feed.feed c.in_ok-feed.ensures (are.pairs (p - 1 + 1) c.args.key.now.site.0 (omega (arith, inside)) c.requires.key.site).share_most
                (depot_shop_small g.row.F x are (p - 1) (nth_stock c.as_slice-else-key-eq0-2.result.now 0) inside few),
          ),
        ),
      ),
    )

pub returns-in_ok-feed : goal.returns-in_ok-feed
returns-in_ok-feed g c =
    let stock : nth_stock c.as_slice-else-key-eq0-2.result.now 0 ≡ nth_stock c.args.key.now.stocks 0 = ap (λ v. nth_stock v 0) c.as_slice-else-key-eq0-2.ensures in
    c.base_shop.ensures.ends
    ∙ base_keyed g.row.F c.args.numbers.now c.args.key.now.place c.args.key.now.site.0 c.args.key.now.stocks c.pair-pair.result c.in_ok-feed.feed _
    (omega (arith, c.if-key-eq0.false)) (omega (arith, c.if-key-eq0-2.false)) c.pair-pair.ensures.is c.in_ok-feed.ensures stock

pub feed_at-requires : goal.feed_at-requires
feed_at-requires g c =
    let key = c.args.key.now in
    let inside : key.place - 1 < length c.args.numbers.now.parts - 1 = omega (arith, c.requires.key.place, c.if-key-eq0.false) in
    let one = c.requires.key.base (omega (arith, c.if-key-eq0.false)) (omega (arith, c.if-key-eq0-2.false)) in
    let few : nth_stock c.as_slice-else-key-eq0-2.result.now 0 ≤ 63 =
    subst (λ v. nth_stock v 0 ≤ 63) (sym c.as_slice-else-key-eq0-2.ensures) (c.requires.key.stocks 0 0 (omega (arith, one))) in
    (lit< tt, (lit< tt, (lit< tt, (c.requires.kept, (inside, (c.requires.key.site, few))))))
