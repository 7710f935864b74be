use Rattle.std.proofs.Common.{◌≡◌, ◌+◌, ◌-◌, ◌*◌, ◌^◌, ◌≤◌, ◌∙◌, List, drop, length, refl, ap, arith}
use Rattle.std.proofs.lemmas.Nat.{mul-le}
use Rattle.fleet_model.specs.Laws.{IsBase}
use Rattle.family_bases.specs.declared.lows.Lows.{Lows}
use Rattle.depot_lows.specs.Rough.{IsDepotWith, lows_of}
use Rattle.depot_lows.proofs.Nearer.{all_rough, bound_read, bounds_all, one_nearer}
use Rattle.depot_lows.proofs.passed.low_if_passed.Goals as goal

pub overflow_mul-at_low : goal.overflow_mul-at_low
overflow_mul-at_low g c =
    let few : c.from-cost.result ≤ 1000000000000 = omega (arith, c.cost.ensures.most, c.from-cost.ensures) in
    omega (arith, mul-le c.args.low.p c.from-cost.result (2 ^ 74) 1000000000000 c.requires.low.p few)

pub overflow_mul-at_high : goal.overflow_mul-at_high
overflow_mul-at_high g c =
    let few : c.from-cost.result ≤ 1000000000000 = omega (arith, c.cost.ensures.most, c.from-cost.ensures) in
    omega (arith, mul-le c.args.high.p c.from-cost.result (2 ^ 74) 1000000000000 c.requires.high.p few)

pub loop-j-init : goal.loop-j-init
loop-j-init g c =
    let x = c.args.sources.now.family.now in
    let d = c.args.depot.now in
    let r = c.args.rough.now in
    let rough = c.requires.rough in
    let few : c.from-cost.result ≤ 1000000000000 = omega (arith, c.cost.ensures.most, c.from-cost.ensures) in
    let p = mul-le c.args.low.p c.from-cost.result (2 ^ 74) 1000000000000 c.requires.low.p few in
    let q = mul-le c.args.high.p c.from-cost.result (2 ^ 74) 1000000000000 c.requires.high.p few in
    let cost = c.from-cost.ensures ∙ c.cost.ensures.cost in
    record {
      low = all_rough g.S.Score.ends x d c.args.low.p c.args.low.q (λ (l : Lows). l.at_low) r.bases.items c.from-cost.result r.sum.at_low
          (c.args.low.p * c.from-cost.result + r.sum.at_low) cost rough.sum_low refl;
      high = all_rough g.S.Score.ends x d c.args.high.p c.args.high.q (λ (l : Lows). l.at_high) r.bases.items c.from-cost.result r.sum.at_high
          (c.args.high.p * c.from-cost.result + r.sum.at_high) cost rough.sum_high refl;
      most_low = omega (arith, p, rough.most_low);
      most_high = omega (arith, q, rough.most_high);
    }

pub returns-then-is_passed-clause-passed : goal.returns-then-is_passed-clause-passed
returns-then-is_passed-clause-passed g c = λ w m.
    let x = c.args.sources.now.family.now in
    let d = c.args.depot.now in
    let rows = c.args.rough.now.bases.items in
    let rough = c.requires.rough in
    let own : IsDepotWith x (drop 1 d) d = record { within = c.requires.depot; shops = refl } in
    let within : c.loop-j.j ≤ length x.case.sites = omega (arith, c.loop-j-test.true, c.sites-j-end.ensures.sites) in
    let here = bounds_all g.S.Score.ends x d c.args.low.p c.args.low.q (λ (l : Lows). l.at_low) rows rough.count (λ j base. (rough.under j base).at_low d own) c.loop-j.j c.loop-j.at_low within c.loop-j.invariant.low w m in
    c.is_passed.ensures c.if-is_passed.true w (omega (arith, here))
    (bounds_all g.S.Score.ends x d c.args.high.p c.args.high.q (λ (l : Lows). l.at_high) rows rough.count (λ j base. (rough.under j base).at_high d own) c.loop-j.j c.loop-j.at_high within c.loop-j.invariant.high w m)

pub returns-then-is_passed-clause-least : goal.returns-then-is_passed-clause-least
returns-then-is_passed-clause-least g c = λ w m.
    let x = c.args.sources.now.family.now in
    let d = c.args.depot.now in
    let rough = c.requires.rough in
    let within : c.loop-j.j ≤ length x.case.sites = omega (arith, c.loop-j-test.true, c.sites-j-end.ensures.sites) in
    bounds_all g.S.Score.ends x d c.args.low.p c.args.low.q (λ (l : Lows). l.at_low) c.args.rough.now.bases.items rough.count
    (λ j base. (rough.under j base).at_low d (record { within = c.requires.depot; shops = refl })) c.loop-j.j c.loop-j.at_low within c.loop-j.invariant.low w m

pub loop-j-preserved : goal.loop-j-preserved
loop-j-preserved g c =
    let x = c.args.sources.now.family.now in
    let d = c.args.depot.now in
    let j = c.loop-j.j in
    let ends = g.S.Score.ends in
    let rows : List Lows = c.args.rough.now.bases.items in
    let rough = c.requires.rough in
    let near = c.lows_at_base-near in
    let base : IsBase x.case j = (omega (arith, c.loop-j.auto.j), omega (arith, c.loop-j-test.true, c.sites-j-end.ensures.sites)) in
    let known : c.index-known.result.now ≡ lows_of rows j =
    bound_read rows j c.from.result c.index-known.result.now c.from.ensures base.0 (omega (arith, base.1, rough.count)) c.index-known.ensures in
    let low_is : c.loop-j.at_low + (near.result.at_low - c.index-known.result.now.at_low) ≡ c.loop-j.at_low + (near.result.at_low - (lows_of rows j).at_low) =
    ap (λ (l : Lows). c.loop-j.at_low + (near.result.at_low - l.at_low)) known in
    let high_is : c.loop-j.at_high + (near.result.at_high - c.index-known.result.now.at_high) ≡ c.loop-j.at_high + (near.result.at_high - (lows_of rows j).at_high) =
    ap (λ (l : Lows). c.loop-j.at_high + (near.result.at_high - l.at_high)) known in
    record {
      low = one_nearer ends x d c.args.low.p c.args.low.q (λ (l : Lows). l.at_low) rows rough.count (λ i b. (rough.under i b).at_low d (record { within = c.requires.depot; shops = refl }))
          j near.result.at_low c.loop-j.at_low (c.loop-j.at_low + c.saturating_sub-at_low.result) base near.ensures.at_low (ap (λ n. c.loop-j.at_low + n) c.saturating_sub-at_low.ensures ∙ low_is) c.loop-j.invariant.low;
      high = one_nearer ends x d c.args.high.p c.args.high.q (λ (l : Lows). l.at_high) rows rough.count (λ i b. (rough.under i b).at_high d (record { within = c.requires.depot; shops = refl }))
          j near.result.at_high c.loop-j.at_high (c.loop-j.at_high + c.saturating_sub-at_high.result) base near.ensures.at_high (ap (λ n. c.loop-j.at_high + n) c.saturating_sub-at_high.ensures ∙ high_is) c.loop-j.invariant.high;
      most_low = omega (arith, c.loop-j.invariant.most_low, near.ensures.most.0, c.saturating_sub-at_low.ensures);
      most_high = omega (arith, c.loop-j.invariant.most_high, near.ensures.most.1, c.saturating_sub-at_high.ensures);
    }

pub returns-then-is_passed-2-clause-passed : goal.returns-then-is_passed-2-clause-passed
returns-then-is_passed-2-clause-passed g c = λ w m.
    let x = c.args.sources.now.family.now in
    let d = c.args.depot.now in
    let rows = c.args.rough.now.bases.items in
    let rough = c.requires.rough in
    let own : IsDepotWith x (drop 1 d) d = record { within = c.requires.depot; shops = refl } in
    let within : c.loop-j.j ≤ length x.case.sites =
    omega (arith, c.loop-j.auto.j-end (omega (arith, c.sites-j-end.ensures.fewest)), c.sites-j-end.ensures.sites) in
    c.is_passed-2.ensures c.if-is_passed-2.true w
    (bounds_all g.S.Score.ends x d c.args.low.p c.args.low.q (λ (l : Lows). l.at_low) rows rough.count (λ j base. (rough.under j base).at_low d own) c.loop-j.j c.loop-j.at_low within c.loop-j.invariant.low w m)
    (bounds_all g.S.Score.ends x d c.args.high.p c.args.high.q (λ (l : Lows). l.at_high) rows rough.count (λ j base. (rough.under j base).at_high d own) c.loop-j.j c.loop-j.at_high within c.loop-j.invariant.high w m)

pub returns-then-is_passed-2-clause-least : goal.returns-then-is_passed-2-clause-least
returns-then-is_passed-2-clause-least g c = λ w m.
    let x = c.args.sources.now.family.now in
    let d = c.args.depot.now in
    let rough = c.requires.rough in
    let within : c.loop-j.j ≤ length x.case.sites =
    omega (arith, c.loop-j.auto.j-end (omega (arith, c.sites-j-end.ensures.fewest)), c.sites-j-end.ensures.sites) in
    bounds_all g.S.Score.ends x d c.args.low.p c.args.low.q (λ (l : Lows). l.at_low) c.args.rough.now.bases.items rough.count
    (λ j base. (rough.under j base).at_low d (record { within = c.requires.depot; shops = refl })) c.loop-j.j c.loop-j.at_low within c.loop-j.invariant.low w m

pub is_passed-requires-clause-ranges : goal.is_passed-requires-clause-ranges
is_passed-requires-clause-ranges g c = c.requires.ranges

pub is_passed-requires-clause-low : goal.is_passed-requires-clause-low
is_passed-requires-clause-low g c = c.requires.low

pub is_passed-requires-clause-high : goal.is_passed-requires-clause-high
is_passed-requires-clause-high g c = c.requires.high

pub is_passed-requires-2-clause-ranges : goal.is_passed-requires-2-clause-ranges
is_passed-requires-2-clause-ranges g c = c.requires.ranges

pub is_passed-requires-2-clause-low : goal.is_passed-requires-2-clause-low
is_passed-requires-2-clause-low g c = c.requires.low

pub is_passed-requires-2-clause-high : goal.is_passed-requires-2-clause-high
is_passed-requires-2-clause-high g c = c.requires.high

pub cost-requires-clause-site : goal.cost-requires-clause-site
cost-requires-clause-site g c = let some = c.invariant.ensures.valid.valid.frame.fewest_sites in omega (arith, some)

pub cost-requires-clause-stocks : goal.cost-requires-clause-stocks
cost-requires-clause-stocks g c = c.requires.depot

pub overflow_add-at_low : goal.overflow_add-at_low
overflow_add-at_low g c =
    let few : c.from-cost.result ≤ 1000000000000 = omega (arith, c.cost.ensures.most, c.from-cost.ensures) in
    omega (arith, mul-le c.args.low.p c.from-cost.result (2 ^ 74) 1000000000000 c.requires.low.p few, c.requires.rough.most_low)

pub overflow_add-at_high : goal.overflow_add-at_high
overflow_add-at_high g c =
    let few : c.from-cost.result ≤ 1000000000000 = omega (arith, c.cost.ensures.most, c.from-cost.ensures) in
    omega (arith, mul-le c.args.high.p c.from-cost.result (2 ^ 74) 1000000000000 c.requires.high.p few, c.requires.rough.most_high)

pub overflow_add-at_low-in-loop-j : goal.overflow_add-at_low-in-loop-j
overflow_add-at_low-in-loop-j g c =
    omega (arith, c.loop-j.invariant.most_low, c.lows_at_base-near.ensures.most.0, c.saturating_sub-at_low.ensures, c.loop-j-test.true, c.sites-j-end.ensures.most)

pub overflow_add-at_high-in-loop-j : goal.overflow_add-at_high-in-loop-j
overflow_add-at_high-in-loop-j g c =
    omega (arith, c.loop-j.invariant.most_high, c.lows_at_base-near.ensures.most.1, c.saturating_sub-at_high.ensures, c.loop-j-test.true, c.sites-j-end.ensures.most)

pub lows_at_base-near-requires-clause-sources : goal.lows_at_base-near-requires-clause-sources
lows_at_base-near-requires-clause-sources g c = c.requires.sources

pub lows_at_base-near-requires-clause-depot : goal.lows_at_base-near-requires-clause-depot
lows_at_base-near-requires-clause-depot g c = c.requires.depot

pub lows_at_base-near-requires-clause-tables : goal.lows_at_base-near-requires-clause-tables
lows_at_base-near-requires-clause-tables g c = c.requires.tables

pub lows_at_base-near-requires-clause-base : goal.lows_at_base-near-requires-clause-base
lows_at_base-near-requires-clause-base g c = (omega (arith, c.loop-j.auto.j), omega (arith, c.loop-j-test.true, c.sites-j-end.ensures.sites))
