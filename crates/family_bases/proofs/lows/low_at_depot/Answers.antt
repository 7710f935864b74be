use Rattle.std.proofs.Common.{◌≡◌, ◌-◌, ◌*◌, ◌^◌, ◌≤◌, ◌∙◌, length, subst, arith}
use Rattle.std.specs.List.{range_with_len}
use Rattle.std.proofs.lemmas.Nat.{mul-le}
use Rattle.family_points.specs.Separation.{points_over}
use Rattle.family_points.specs.Least.{AreAtLeast}
use Rattle.family_bases.proofs.LowPoints.{base_under_more, depot_under}
use Rattle.family_bases.proofs.lows.low_at_depot.Goals as goal

pub loop-j-init : goal.loop-j-init
loop-j-init g c =
    let x = c.args.sources.now.family.now in
    let most = c.cost.ensures.most in
    let few : c.from.result ≤ 1000000000000 = omega (arith, most, c.from.ensures) in
    let p : c.args.price.p * c.from.result ≤ 2 ^ 74 * 1000000000000 = mul-le c.args.price.p c.from.result (2 ^ 74) 1000000000000 c.requires.price few in
    record {
      low = depot_under x c.args.depot.now c.args.price.p c.args.price.q c.from.result (c.from.ensures ∙ c.cost.ensures.cost);
      most = omega (arith, p);
    }

pub loop-j-preserved : goal.loop-j-preserved
loop-j-preserved g c =
    let x = c.args.sources.now.family.now in
    let d = c.args.depot.now in
    let j = c.loop-j.j in
    let p = c.args.price.p in
    let q = c.args.price.q in
    let ends = g.S.Score.ends in
    record {
      low = base_under_more x ends d p q j c.loop-j.low c.lows_at_base-low.result.at_low (omega (arith, c.loop-j.auto.j)) c.loop-j.invariant.low c.lows_at_base-low.ensures.at_low;
      most = omega (arith, c.loop-j.invariant.most, c.lows_at_base-low.ensures.most.0);
    }

pub returns : goal.returns
returns g c =
    let x = c.args.sources.now.family.now in
    let d = c.args.depot.now in
    let ends = g.S.Score.ends in
    let last : c.loop-j.j - 1 ≡ length x.case.sites - 1 =
    omega (arith, c.loop-j-test.false, c.loop-j.auto.j-end (omega (arith, c.sites-j-end.ensures.fewest)), c.sites-j-end.ensures.sites) in
    subst (λ n. AreAtLeast c.args.price.p c.args.price.q c.loop-j.low (points_over ends x d (range_with_len 1 n))) last c.loop-j.invariant.low

pub cost-requires-clause-site : goal.cost-requires-clause-site
cost-requires-clause-site g c = let some = c.invariant.ensures.valid.valid.frame.fewest_sites in omega (arith, some)

pub cost-requires-clause-stocks : goal.cost-requires-clause-stocks
cost-requires-clause-stocks g c = c.requires.depot

pub overflow_mul-low : goal.overflow_mul-low
overflow_mul-low g c =
    let few : c.from.result ≤ 1000000000000 = omega (arith, c.cost.ensures.most, c.from.ensures) in
    omega (arith, mul-le c.args.price.p c.from.result (2 ^ 74) 1000000000000 c.requires.price few)

pub lows_at_base-low-requires-clause-low : goal.lows_at_base-low-requires-clause-low
lows_at_base-low-requires-clause-low g c = record { p = c.requires.price; q = c.requires.most_money }

pub lows_at_base-low-requires-clause-high : goal.lows_at_base-low-requires-clause-high
lows_at_base-low-requires-clause-high g c = record { p = c.requires.price; q = c.requires.most_money }

pub overflow_add-low : goal.overflow_add-low
overflow_add-low g c = omega (arith, c.loop-j.invariant.most, c.lows_at_base-low.ensures.most.0, c.loop-j-test.true, c.sites-j-end.ensures.most)

pub lows_at_base-low-requires-clause-sources : goal.lows_at_base-low-requires-clause-sources
lows_at_base-low-requires-clause-sources g c = c.requires.sources

pub lows_at_base-low-requires-clause-depot : goal.lows_at_base-low-requires-clause-depot
lows_at_base-low-requires-clause-depot g c = c.requires.depot

pub lows_at_base-low-requires-clause-tables : goal.lows_at_base-low-requires-clause-tables
lows_at_base-low-requires-clause-tables g c = c.requires.tables

pub lows_at_base-low-requires-clause-base : goal.lows_at_base-low-requires-clause-base
lows_at_base-low-requires-clause-base g c = (omega (arith, c.loop-j.auto.j), omega (arith, c.loop-j-test.true, c.sites-j-end.ensures.sites))
