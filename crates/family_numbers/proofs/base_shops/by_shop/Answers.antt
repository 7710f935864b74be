use Rattle.std.proofs.Common.{◌≡◌, ◌-◌, ◌<◌, ◌∙◌, map, ap, arith, length, lit<}
use Rattle.std.specs.List.{range_with_len}
use Rattle.list_laws.proofs.Public.{mapped_more}
use Rattle.family_numbers.specs.BaseTables.{tables_by_stock}
use Rattle.family_numbers.specs.Numbers.{depot_shop_table, nth_stock}
use Rattle.family_numbers.proofs.BaseTables.{bound_of}
use Rattle.family_numbers.proofs.Served.{count_of, read_of}
use Rattle.family_numbers.proofs.base_shops.by_shop.Goals as goal

pub bounds-depot-i : goal.bounds-depot-i
bounds-depot-i g c =
    count_of (λ i. depot_shop_table g.row.F c.args.numbers.now i) (length c.args.numbers.now.parts - 1) c.loop-i.i c.args.depot.now c.requires.depot
    (rw c.shops-i-end.ensures.shops at c.loop-i-test.true)

pub bounds-low-i : goal.bounds-low-i
bounds-low-i g c = (bound_of c.args.numbers.now c.args.low.now c.args.high.now c.requires.bounds c.loop-i.i (rw c.shops-i-end.ensures.shops at c.loop-i-test.true)).inside.0

pub bounds-high-i : goal.bounds-high-i
bounds-high-i g c = (bound_of c.args.numbers.now c.args.low.now c.args.high.now c.requires.bounds c.loop-i.i (rw c.shops-i-end.ensures.shops at c.loop-i-test.true)).inside.1

pub by_stock-requires : goal.by_stock-requires
by_stock-requires g c =
    let inside : c.loop-i.i < length c.args.numbers.now.parts - 1 = rw c.shops-i-end.ensures.shops at c.loop-i-test.true in
    let bound = bound_of c.args.numbers.now c.args.low.now c.args.high.now c.requires.bounds c.loop-i.i inside in
    let depot = read_of (λ i. depot_shop_table g.row.F c.args.numbers.now i) (length c.args.numbers.now.parts - 1) c.loop-i.i c.args.depot.now c.index-depot-i.result
    c.requires.depot inside c.index-depot-i.is in
    (lit< tt, (lit< tt, (lit< tt, (depot, (inside, (c.requires.site, (bound.order, bound.most)))))))

pub loop-i-preserved : goal.loop-i-preserved
loop-i-preserved g c =
    mapped_more (λ i. tables_by_stock g.row.F c.args.numbers.now c.args.site.0 i (nth_stock c.args.low.now i) (nth_stock c.args.high.now i))
    c.loop-i.i c.loop-i.made.items c.push.new.self.items c.in_ok-tables.tables c.in_ok-push.ensures.items c.loop-i.invariant c.in_ok-tables.ensures

pub returns : goal.returns
returns g c =
    let all : c.loop-i.i ≡ length c.args.numbers.now.parts - 1 = omega (arith, c.loop-i-test.false, c.loop-i.auto.i-end, c.shops-i-end.ensures.shops) in
    c.of.ensures ∙ c.loop-i.invariant
    ∙ ap (λ n. map (λ i. tables_by_stock g.row.F c.args.numbers.now c.args.site.0 i (nth_stock c.args.low.now i) (nth_stock c.args.high.now i)) (range_with_len 0 n)) all
