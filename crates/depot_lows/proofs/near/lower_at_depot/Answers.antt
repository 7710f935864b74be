use Rattle.std.proofs.Common.{◌^◌, ◌≤◌, arith}
use Rattle.std.proofs.lemmas.Nat.{mul-le}
use Rattle.depot_lows.proofs.near.lower_at_depot.Goals as goal

pub cost-requires-clause-site : goal.cost-requires-clause-site
cost-requires-clause-site g c = let some = c.invariant.ensures.valid.valid.frame.fewest_sites in omega (arith, some)

pub cost-requires-clause-stocks : goal.cost-requires-clause-stocks
cost-requires-clause-stocks g c = c.requires.depot

pub overflow_mul-sums : goal.overflow_mul-sums
overflow_mul-sums g c =
    let few : c.from-cost.result ≤ 1000000000000 = omega (arith, c.cost.ensures.most, c.from-cost.ensures) in
    omega (arith, mul-le c.args.low.p c.from-cost.result (2 ^ 74) 1000000000000 c.requires.low.p few)

pub overflow_mul-sums-2 : goal.overflow_mul-sums-2
overflow_mul-sums-2 g c =
    let few : c.from-cost.result ≤ 1000000000000 = omega (arith, c.cost.ensures.most, c.from-cost.ensures) in
    omega (arith, mul-le c.args.high.p c.from-cost.result (2 ^ 74) 1000000000000 c.requires.high.p few)

pub loop-j-init : goal.loop-j-init
loop-j-init g c =
    let few : c.from-cost.result ≤ 1000000000000 = omega (arith, c.cost.ensures.most, c.from-cost.ensures) in
    let p = mul-le c.args.low.p c.from-cost.result (2 ^ 74) 1000000000000 c.requires.low.p few in
    let q = mul-le c.args.high.p c.from-cost.result (2 ^ 74) 1000000000000 c.requires.high.p few in
    record { most_low = omega (arith, p, c.requires.rough.most_low); most_high = omega (arith, q, c.requires.rough.most_high) }

pub overflow_add-sums : goal.overflow_add-sums
overflow_add-sums g c =
    let few : c.from-cost.result ≤ 1000000000000 = omega (arith, c.cost.ensures.most, c.from-cost.ensures) in
    omega (arith, mul-le c.args.low.p c.from-cost.result (2 ^ 74) 1000000000000 c.requires.low.p few, c.requires.rough.most_low)

pub overflow_add-sums-2 : goal.overflow_add-sums-2
overflow_add-sums-2 g c =
    let few : c.from-cost.result ≤ 1000000000000 = omega (arith, c.cost.ensures.most, c.from-cost.ensures) in
    omega (arith, mul-le c.args.high.p c.from-cost.result (2 ^ 74) 1000000000000 c.requires.high.p few, c.requires.rough.most_high)

pub loop-j-preserved : goal.loop-j-preserved
loop-j-preserved g c = record {
  most_low = omega (arith, c.loop-j.invariant.most_low, c.lows_at_base-near.ensures.most.0);
  most_high = omega (arith, c.loop-j.invariant.most_high, c.lows_at_base-near.ensures.most.1);
}

pub lows_at_base-near-requires-clause-sources : goal.lows_at_base-near-requires-clause-sources
lows_at_base-near-requires-clause-sources g c = c.requires.sources

pub lows_at_base-near-requires-clause-depot : goal.lows_at_base-near-requires-clause-depot
lows_at_base-near-requires-clause-depot g c = c.requires.depot

pub lows_at_base-near-requires-clause-tables : goal.lows_at_base-near-requires-clause-tables
lows_at_base-near-requires-clause-tables g c = c.requires.tables

pub lows_at_base-near-requires-clause-base : goal.lows_at_base-near-requires-clause-base
lows_at_base-near-requires-clause-base g c = (omega (arith, c.loop-j.auto.j), omega (arith, c.loop-j-test.true, c.sites-j-end.ensures.sites))
