use Rattle.std.specs.List.{range_with_len}
use Rattle.std.proofs.Common.{◌+◌, ◌∙◌, ap, get_or, ◌≡◌, ◌-◌, length, map, arith}
use Rattle.list_laws.proofs.Public.{mapped_more}
use Rattle.spares_input.specs.Stocks.{stock_at}
use Rattle.family_tables.proofs.making.depot_stocks.Goals as goal

pub loop-i-preserved : goal.loop-i-preserved
loop-i-preserved g c =
    mapped_more (λ i. stock_at c.args.stocks.now (get_or c.args.numbers.now.parts (i + 1) 0) 0) c.loop-i.i c.loop-i.depot.items c.push.new.self.items c.get.result
    c.in_ok-push.ensures.items c.loop-i.invariant (c.get.ensures ∙ ap (λ p. stock_at c.args.stocks.now p 0) c.part.ensures)

pub returns : goal.returns
returns g c =
    let numbers = c.args.numbers.now in
    let all : c.loop-i.i ≡ length numbers.parts - 1 = omega (arith, c.loop-i-test.false, c.loop-i.auto.i-end, c.shops-i-end.ensures.shops) in
    c.loop-i.invariant ∙ ap (λ n. map (λ i. stock_at c.args.stocks.now (get_or numbers.parts (i + 1) 0) 0) (range_with_len 0 n)) all
