use Rattle.std.proofs.Common.{◌+◌, ◌<◌, ◌≤◌, drop, refl, ap, arith}
use Rattle.family_points.specs.Inputs.{line_high, line_low}
use Rattle.family_bases.specs.declared.lows.Lows.{Lows}
use Rattle.family_bases.proofs.Public.{beyond}
use Rattle.depot_lows.proofs.RoughFacts.{fewest_at_first, first_cost, first_is, first_under, line_under, lines_under, next_cost, next_small}
use Rattle.depot_lows.proofs.rough.lower_at_shops.Goals as goal

pub is_reached-requires-clause-cost : goal.is_reached-requires-clause-cost
is_reached-requires-clause-cost g c =
    let here = c.args.here.now in
    let most = first_cost here.family.now c.requires.here.valid here.site.0 c.args.shops.now.stocks c.requires.here.site.1 c.requires.shops.within c.args.shops.now.cost c.requires.shops.cost in
    omega (arith, most)

pub returns-then-is_reached-clause-under : goal.returns-then-is_reached-clause-under
returns-then-is_reached-clause-under g c = λ d h.
    let here = c.args.here.now in
    let x = here.family.now in
    beyond x g.S.Score.ends d here.site.0 c.args.low c.args.high c.requires.here.valid c.args.shops.now.stocks c.args.least (line_low x here.site.0) c.args.shops.now.cost
    c.requires.here.site.1 c.requires.shops.within (omega arith) c.requires.shops.cost (c.is_reached.ensures c.if-is_reached.true)

pub lagrangian-requires-clause-cost : goal.lagrangian-requires-clause-cost
lagrangian-requires-clause-cost g c =
    let here = c.args.here.now in
    let most = first_cost here.family.now c.requires.here.valid here.site.0 c.args.shops.now.stocks c.requires.here.site.1 c.requires.shops.within c.args.shops.now.cost c.requires.shops.cost in
    omega (arith, most)

pub lagrangian-requires-clause-scored : goal.lagrangian-requires-clause-scored
lagrangian-requires-clause-scored g c =
    let here = c.args.here.now in
    let x = here.family.now in
    let v = drop 1 here.depot.now in
    let stocks = c.args.shops.now.stocks in
    (first_is x c.requires.here.valid g.S.Score.ends v here.site.0 c.requires.here.site c.args.low c.args.high stocks c.requires.shops.within g.met.S.Score.leaves_room c.fewest_at.result c.low-scored.result
    (fewest_at_first x v here.site.0 stocks c.line_low-first.result c.fewest_at.result c.args.fewest c.line_low-first.ensures c.requires.fewest c.fewest_at.ensures.none c.fewest_at.ensures.some)
    c.low-scored.ensures here.depot.now (record { within = c.requires.here.depot; shops = refl })).most

pub lagrangian-requires-2-clause-cost : goal.lagrangian-requires-2-clause-cost
lagrangian-requires-2-clause-cost g c =
    let here = c.args.here.now in
    let most = first_cost here.family.now c.requires.here.valid here.site.0 c.args.shops.now.stocks c.requires.here.site.1 c.requires.shops.within c.args.shops.now.cost c.requires.shops.cost in
    omega (arith, most)

pub lagrangian-requires-2-clause-scored : goal.lagrangian-requires-2-clause-scored
lagrangian-requires-2-clause-scored g c =
    let here = c.args.here.now in
    let x = here.family.now in
    let v = drop 1 here.depot.now in
    let stocks = c.args.shops.now.stocks in
    (first_is x c.requires.here.valid g.S.Score.ends v here.site.0 c.requires.here.site c.args.low c.args.high stocks c.requires.shops.within g.met.S.Score.leaves_room c.fewest_at.result c.low-scored.result
    (fewest_at_first x v here.site.0 stocks c.line_low-first.result c.fewest_at.result c.args.fewest c.line_low-first.ensures c.requires.fewest c.fewest_at.ensures.none c.fewest_at.ensures.some)
    c.low-scored.ensures here.depot.now (record { within = c.requires.here.depot; shops = refl })).most

pub returns-then-line_high-first-clause-under : goal.returns-then-line_high-first-clause-under
returns-then-line_high-first-clause-under g c =
    let here = c.args.here.now in
    let x = here.family.now in
    let v = drop 1 here.depot.now in
    let j = here.site.0 in
    let stocks = c.args.shops.now.stocks in
    let ends = g.S.Score.ends in
    let found : Lows = record { at_low = c.lagrangian.result; at_high = c.lagrangian-2.result } in
    let is = first_is x c.requires.here.valid ends v j c.requires.here.site c.args.low c.args.high stocks c.requires.shops.within g.met.S.Score.leaves_room c.fewest_at.result c.low-scored.result
    (fewest_at_first x v j stocks c.line_low-first.result c.fewest_at.result c.args.fewest c.line_low-first.ensures c.requires.fewest c.fewest_at.ensures.none c.fewest_at.ensures.some)
    c.low-scored.ensures in
    let one : line_high x j ≤ line_low x j = omega (arith, c.if-line_high-first.true, c.line_high.ensures.high, c.line_low-first.ensures) in
    line_under x c.requires.here.valid ends v j c.requires.here.site c.args.low c.args.high stocks c.requires.shops.within found c.lower-found.result one
    (record {
      at_low = omega (arith, ap (λ (l : Lows). l.at_low) c.lower-found.ensures);
      at_high = omega (arith, ap (λ (l : Lows). l.at_high) c.lower-found.ensures);
    })
    (first_under x c.requires.here.valid ends v j c.requires.here.site c.args.low c.args.high stocks c.requires.shops.within c.args.shops.now.cost c.low-scored.result found c.requires.shops.cost is
    c.lagrangian.ensures c.lagrangian-2.ensures)

pub overflow_add-cost : goal.overflow_add-cost
overflow_add-cost g c =
    let here = c.args.here.now in
    let x = here.family.now in
    let more : line_low x here.site.0 < line_high x here.site.0 = omega (arith, c.if-line_high-first.false, c.line_high.ensures.high, c.line_low-first.ensures) in
    let most = next_small x c.requires.here.valid here.site.0 c.args.shops.now.stocks c.requires.here.site.1 c.requires.shops.within c.args.shops.now.cost c.requires.shops.cost
    c.line_cost.result c.line_cost.ensures more in
    omega (arith, most)

pub lagrangian-requires-3-clause-cost : goal.lagrangian-requires-3-clause-cost
lagrangian-requires-3-clause-cost g c =
    let here = c.args.here.now in
    let x = here.family.now in
    let more : line_low x here.site.0 < line_high x here.site.0 = omega (arith, c.if-line_high-first.false, c.line_high.ensures.high, c.line_low-first.ensures) in
    let most = next_small x c.requires.here.valid here.site.0 c.args.shops.now.stocks c.requires.here.site.1 c.requires.shops.within c.args.shops.now.cost c.requires.shops.cost
    c.line_cost.result c.line_cost.ensures more in
    omega (arith, most)

pub lagrangian-requires-4-clause-cost : goal.lagrangian-requires-4-clause-cost
lagrangian-requires-4-clause-cost g c =
    let here = c.args.here.now in
    let x = here.family.now in
    let more : line_low x here.site.0 < line_high x here.site.0 = omega (arith, c.if-line_high-first.false, c.line_high.ensures.high, c.line_low-first.ensures) in
    let most = next_small x c.requires.here.valid here.site.0 c.args.shops.now.stocks c.requires.here.site.1 c.requires.shops.within c.args.shops.now.cost c.requires.shops.cost
    c.line_cost.result c.line_cost.ensures more in
    omega (arith, most)

pub returns-clause-under : goal.returns-clause-under
returns-clause-under g c =
    let here = c.args.here.now in
    let x = here.family.now in
    let v = drop 1 here.depot.now in
    let j = here.site.0 in
    let stocks = c.args.shops.now.stocks in
    let ends = g.S.Score.ends in
    let cost = c.args.shops.now.cost + c.line_cost.result in
    let found : Lows = record { at_low = c.lagrangian.result; at_high = c.lagrangian-2.result } in
    let one : Lows = record { at_low = c.lagrangian-3.result; at_high = c.lagrangian-4.result } in
    let is = first_is x c.requires.here.valid ends v j c.requires.here.site c.args.low c.args.high stocks c.requires.shops.within g.met.S.Score.leaves_room c.fewest_at.result c.low-scored.result
    (fewest_at_first x v j stocks c.line_low-first.result c.fewest_at.result c.args.fewest c.line_low-first.ensures c.requires.fewest c.fewest_at.ensures.none c.fewest_at.ensures.some)
    c.low-scored.ensures in
    let more : line_low x j < line_high x j = omega (arith, c.if-line_high-first.false, c.line_high.ensures.high, c.line_low-first.ensures) in
    let dear = next_cost x c.requires.here.valid j stocks c.requires.here.site.1 c.requires.shops.within c.args.shops.now.cost c.requires.shops.cost c.line_cost.result c.line_cost.ensures more in
    let a = ap (λ (l : Lows). l.at_low) c.lower-found.ensures in
    let b = ap (λ (l : Lows). l.at_high) c.lower-found.ensures in
    let e = ap (λ (l : Lows). l.at_low) c.lower.ensures in
    let h = ap (λ (l : Lows). l.at_high) c.lower.ensures in
    lines_under x c.requires.here.valid ends v j c.requires.here.site c.args.low c.args.high stocks c.requires.shops.within found one c.lower.result cost (omega (arith, more)) dear
    (record { at_low = omega (arith, c.lagrangian-3.ensures); at_high = omega (arith, c.lagrangian-4.ensures) })
    (record { at_low = omega (arith, a, e); at_high = omega (arith, b, h) })
    (record { at_low = omega (arith, e); at_high = omega (arith, h) })
    (first_under x c.requires.here.valid ends v j c.requires.here.site c.args.low c.args.high stocks c.requires.shops.within c.args.shops.now.cost c.low-scored.result found c.requires.shops.cost is
    c.lagrangian.ensures c.lagrangian-2.ensures)
