use Rattle.std.specs.List.{range_with_len}
use Rattle.std.proofs.Common.{◌+◌, ◌≡◌, ◌-◌, ◌∙◌, ap, length, map, arith}
use Rattle.list_laws.proofs.Public.{mapped_more}
use Rattle.family_numbers.specs.Numbers.{nth_stock, depot_shop_row, feed_from, pair_at}
use Rattle.family_tables.proofs.making.feeds_at.Goals as goal

pub loop-i-preserved : goal.loop-i-preserved
loop-i-preserved g c =
    mapped_more (λ i. feed_from g.row.F (pair_at c.args.numbers.now (i + 1) 0).share (depot_shop_row g.row.F c.args.numbers.now i (nth_stock c.args.depot.now i)))
    c.loop-i.i c.loop-i.feeds.items c.push.new.self.items c.in_ok-feed.feed c.in_ok-push.ensures.items c.loop-i.invariant c.in_ok-feed.ensures

pub returns : goal.returns
returns g c =
    let numbers = c.args.numbers.now in
    let all : c.loop-i.i ≡ length numbers.parts - 1 = omega (arith, c.loop-i-test.false, c.loop-i.auto.i-end, c.shops-i-end.ensures.shops) in
    c.loop-i.invariant
    ∙ ap (λ n. map (λ i. feed_from g.row.F (pair_at numbers (i + 1) 0).share (depot_shop_row g.row.F numbers i (nth_stock c.args.depot.now i))) (range_with_len 0 n)) all
