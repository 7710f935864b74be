use Rattle.std.proofs.Common.{◌≡◌, ℕ, ◌+◌, ◌-◌, ◌*◌, ◌≤◌, ◌∷◌, drop, inl, inr, sym, ap, ◌∙◌, subst, arith}
use Rattle.std.proofs.lemmas.Bool.{cases_lt}
use Rattle.backorder_bounds.specs.Places.{Place, next_place}
use Rattle.fleet_model.specs.Fleet.{family}
use Rattle.family_numbers.specs.Numbers.{shop_part}
use Rattle.family_points.specs.Inputs.{held_at, line_high, line_low, AreShopsAt}
use Rattle.family_points.specs.Points.{cost_above}
use Rattle.family_points.proofs.Public.{line_cost, line_cost_most, line_cost_small}
use Rattle.family_bases.specs.declared.lows.Lows.{Lows}
use Rattle.family_bases.specs.Lows.{AreUnder, line_place, lower_of}
use Rattle.family_bases.proofs.LowPoints.{beyond, first_stock, stock_more}
use Rattle.family_bases.proofs.lows.lower_at_shops.Goals as goal

pub is_reached-requires-clause-cost : goal.is_reached-requires-clause-cost
is_reached-requires-clause-cost g c =
    let here = c.args.here.now in
    let x = here.family.now in
    let most = line_cost_most x c.requires.here.valid here.site.0 (line_low x here.site.0) c.args.shops.now.stocks c.requires.here.site.1 c.requires.shops.within (omega arith)
    (omega (arith, c.line_high-last.ensures.high, c.line_high-last.ensures.order)) in
    omega (arith, most, c.requires.shops.cost)

pub returns-then-is_reached-clause-under : goal.returns-then-is_reached-clause-under
returns-then-is_reached-clause-under g c =
    let here = c.args.here.now in
    let x = here.family.now in
    beyond x g.S.Score.ends here.depot.now here.site.0 c.args.low c.args.high c.requires.here.valid c.args.shops.now.stocks c.args.least (line_low x here.site.0) c.args.shops.now.cost
    c.requires.here.site.1 c.requires.shops.within (omega arith) c.requires.shops.cost (c.is_reached.ensures c.if-is_reached.true)

pub lows_at_stocks-requires : goal.lows_at_stocks-requires
lows_at_stocks-requires g c =
    let here = c.args.here.now in
    let x = here.family.now in
    let j = here.site.0 in
    let stocks = c.args.shops.now.stocks in
    let low : c.reach_least.new.walk.stock ≡ line_low x j = ap (λ (p : Place). p.stock) (c.reach_least.ensures c.as_slice.result.now c.walk_at-walk.ensures) in
    let order : line_low x j ≤ line_high x j = omega (arith, c.line_high-last.ensures.high, c.line_high-last.ensures.order) in
    let most = line_cost_most x c.requires.here.valid j (line_low x j) stocks c.requires.here.site.1 c.requires.shops.within (omega arith) order in
    record {
      here = c.requires.here;
      shops = c.requires.shops;
      walk = (c.reach_least.ensures c.as_slice.result.now c.walk_at-walk.ensures) ∙ ap (λ v. line_place x here.depot.now j v (line_low x j)) c.as_slice.ensures ∙ ap (λ s. line_place x here.depot.now j stocks s) (sym low);
      least = omega (arith, low);
      most = omega (arith, low, order);
      cost = c.requires.shops.cost ∙ ap (λ s. cost_above x.case (family x.case x.line) (held_at x j) (s ∷ stocks)) (sym low);
      small = omega (arith, most, c.requires.shops.cost);
      low = c.requires.low;
      high = c.requires.high;
    }

pub loop-s-init : goal.loop-s-init
loop-s-init g c =
    let here = c.args.here.now in
    let x = here.family.now in
    let j = here.site.0 in
    let stocks = c.args.shops.now.stocks in
    let low : c.reach_least.new.walk.stock ≡ c.line_low-first.result = ap (λ (p : Place). p.stock) (c.reach_least.ensures c.as_slice.result.now c.walk_at-walk.ensures) ∙ sym c.line_low-first.ensures in
    let here_is = subst (λ s. AreUnder g.S.Score.ends x here.depot.now j c.args.low c.args.high stocks s c.lows_at_stocks.result) low c.lows_at_stocks.ensures in
    let under : (k : ℕ) → c.line_low-first.result ≤ k → k ≤ c.line_low-first.result
    → AreUnder g.S.Score.ends x here.depot.now j c.args.low c.args.high stocks k (lower_of c.args.least c.lows_at_stocks.result) =
    first_stock x g.S.Score.ends here.depot.now j c.args.low c.args.high stocks c.line_low-first.result c.args.least c.lows_at_stocks.result here_is in
    record {
      walk = (c.reach_least.ensures c.as_slice.result.now c.walk_at-walk.ensures) ∙ ap (λ v. line_place x here.depot.now j v (line_low x j)) c.as_slice.ensures ∙ ap (λ s. line_place x here.depot.now j stocks s) (sym c.line_low-first.ensures);
      lower = record {
        at_low = omega (arith, ap (λ (l : Lows). l.at_low) c.lower-found.ensures);
        at_high = omega (arith, ap (λ (l : Lows). l.at_high) c.lower-found.ensures);
      };
      under = λ k l h. subst (λ (lows : Lows). AreUnder g.S.Score.ends x here.depot.now j c.args.low c.args.high stocks k lows) (sym c.lower-found.ensures)
          (under k (omega (arith, l, c.line_low-first.ensures)) h);
    }

pub overflow_mul-cost : goal.overflow_mul-cost
overflow_mul-cost g c =
    let here = c.args.here.now in
    let most = line_cost_small here.family.now c.requires.here.valid here.site.0 (c.loop-s.s + 1) c.args.shops.now.stocks c.requires.here.site.1 c.requires.shops.within
    (omega (arith, c.loop-s.auto.s, c.line_low-first.ensures)) (omega (arith, c.loop-s-test.true, c.line_high-last.ensures.high))
    c.args.shops.now.cost c.from.result c.line_cost-each.result c.requires.shops.cost (c.from.ensures ∙ ap (λ l. c.loop-s.s + 1 - l) c.line_low-first.ensures) c.line_cost-each.ensures in
    omega (arith, most)

pub overflow_add-cost : goal.overflow_add-cost
overflow_add-cost g c =
    let here = c.args.here.now in
    let most = line_cost_small here.family.now c.requires.here.valid here.site.0 (c.loop-s.s + 1) c.args.shops.now.stocks c.requires.here.site.1 c.requires.shops.within
    (omega (arith, c.loop-s.auto.s, c.line_low-first.ensures)) (omega (arith, c.loop-s-test.true, c.line_high-last.ensures.high))
    c.args.shops.now.cost c.from.result c.line_cost-each.result c.requires.shops.cost (c.from.ensures ∙ ap (λ l. c.loop-s.s + 1 - l) c.line_low-first.ensures) c.line_cost-each.ensures in
    omega (arith, most)

pub is_reached-requires-in-loop-s-clause-cost : goal.is_reached-requires-in-loop-s-clause-cost
is_reached-requires-in-loop-s-clause-cost g c =
    let here = c.args.here.now in
    let most = line_cost_small here.family.now c.requires.here.valid here.site.0 (c.loop-s.s + 1) c.args.shops.now.stocks c.requires.here.site.1 c.requires.shops.within
    (omega (arith, c.loop-s.auto.s, c.line_low-first.ensures)) (omega (arith, c.loop-s-test.true, c.line_high-last.ensures.high))
    c.args.shops.now.cost c.from.result c.line_cost-each.result c.requires.shops.cost (c.from.ensures ∙ ap (λ l. c.loop-s.s + 1 - l) c.line_low-first.ensures) c.line_cost-each.ensures in
    omega (arith, most)

pub returns-then-is_reached-2-clause-under : goal.returns-then-is_reached-2-clause-under
returns-then-is_reached-2-clause-under g c s l h =
    let here = c.args.here.now in
    let x = here.family.now in
    let j = here.site.0 in
    let stocks = c.args.shops.now.stocks in
    let least : line_low x j ≤ c.loop-s.s + 1 = omega (arith, c.loop-s.auto.s, c.line_low-first.ensures) in
    elim (cases_lt c.loop-s.s s) [
      | inr done ↦ c.loop-s.invariant.under s l done
      | inl more ↦ (let cost = line_cost x c.requires.here.valid j (c.loop-s.s + 1) stocks c.requires.here.site.1 c.requires.shops.within
          least (omega (arith, c.loop-s-test.true, c.line_high-last.ensures.high))
          c.args.shops.now.cost c.from.result c.line_cost-each.result c.requires.shops.cost (c.from.ensures ∙ ap (λ l. c.loop-s.s + 1 - l) c.line_low-first.ensures) c.line_cost-each.ensures in
          beyond x g.S.Score.ends here.depot.now j c.args.low c.args.high c.requires.here.valid stocks c.loop-s.found (c.loop-s.s + 1)
          (c.args.shops.now.cost + c.from.result * c.line_cost-each.result) c.requires.here.site.1 c.requires.shops.within least cost
          (c.is_reached-in-loop-s.ensures c.if-is_reached-2.true) s (omega (arith, more)) h)
    ]

pub advance-requires : goal.advance-requires
advance-requires g c =
    let e : c.loop-s.walk.stock ≡ c.loop-s.s = ap (λ (p : Place). p.stock) c.loop-s.invariant.walk in
    omega (arith, e, c.loop-s-test.true, c.line_high-last.ensures.most)

pub lows_at_stocks-requires-in-loop-s : goal.lows_at_stocks-requires-in-loop-s
lows_at_stocks-requires-in-loop-s g c =
    let here = c.args.here.now in
    let x = here.family.now in
    let j = here.site.0 in
    let stocks = c.args.shops.now.stocks in
    let least : line_low x j ≤ c.loop-s.s + 1 = omega (arith, c.loop-s.auto.s, c.line_low-first.ensures) in
    let most : c.loop-s.s + 1 ≤ line_high x j = omega (arith, c.loop-s-test.true, c.line_high-last.ensures.high) in
    let moved : c.advance.new.self ≡ line_place x here.depot.now j stocks (c.loop-s.s + 1) = c.advance.ensures ∙ ap next_place c.loop-s.invariant.walk in
    let stock : c.advance.new.self.stock ≡ c.loop-s.s + 1 = ap (λ (p : Place). p.stock) moved in
    let above : c.from.result ≡ c.loop-s.s + 1 - line_low x j = c.from.ensures ∙ ap (λ l. c.loop-s.s + 1 - l) c.line_low-first.ensures in
    let cost = line_cost x c.requires.here.valid j (c.loop-s.s + 1) stocks c.requires.here.site.1 c.requires.shops.within least most
    c.args.shops.now.cost c.from.result c.line_cost-each.result c.requires.shops.cost above c.line_cost-each.ensures in
    record {
      here = c.requires.here;
      shops = c.requires.shops;
      walk = moved ∙ ap (λ s. line_place x here.depot.now j stocks s) (sym stock);
      least = omega (arith, stock, least);
      most = omega (arith, stock, most);
      cost = cost ∙ ap (λ s. cost_above x.case (family x.case x.line) (held_at x j) (s ∷ stocks)) (sym stock);
      small = line_cost_small x c.requires.here.valid j (c.loop-s.s + 1) stocks c.requires.here.site.1 c.requires.shops.within least most
          c.args.shops.now.cost c.from.result c.line_cost-each.result c.requires.shops.cost above c.line_cost-each.ensures;
      low = c.requires.low;
      high = c.requires.high;
    }

pub loop-s-preserved : goal.loop-s-preserved
loop-s-preserved g c =
    let here = c.args.here.now in
    let x = here.family.now in
    let j = here.site.0 in
    let stocks = c.args.shops.now.stocks in
    let moved : c.advance.new.self ≡ line_place x here.depot.now j stocks (c.loop-s.s + 1) = c.advance.ensures ∙ ap next_place c.loop-s.invariant.walk in
    let stock : c.advance.new.self.stock ≡ c.loop-s.s + 1 = ap (λ (p : Place). p.stock) moved in
    let after = c.lower-found-in-loop-s in
    let found = c.lows_at_stocks-in-loop-s in
    let now = subst (λ s. AreUnder g.S.Score.ends x here.depot.now j c.args.low c.args.high stocks s found.result) stock found.ensures in
    record {
      walk = moved;
      lower = record {
        at_low = omega (arith, ap (λ (l : Lows). l.at_low) after.ensures, c.loop-s.invariant.lower.at_low);
        at_high = omega (arith, ap (λ (l : Lows). l.at_high) after.ensures, c.loop-s.invariant.lower.at_high);
      };
      under = λ k l h. subst (λ (lows : Lows). AreUnder g.S.Score.ends x here.depot.now j c.args.low c.args.high stocks k lows) (sym after.ensures)
          (stock_more x g.S.Score.ends here.depot.now j c.args.low c.args.high stocks c.loop-s.s c.loop-s.found found.result c.loop-s.invariant.under now k l h);
    }

pub returns-clause-under : goal.returns-clause-under
returns-clause-under g c s l h = c.loop-s.invariant.under s l (omega (arith, h, c.loop-s-test.false, c.line_high-last.ensures.high))

pub is_reached-requires-clause-low : goal.is_reached-requires-clause-low
is_reached-requires-clause-low g c = c.requires.low

pub is_reached-requires-clause-high : goal.is_reached-requires-clause-high
is_reached-requires-clause-high g c = c.requires.high

pub walk_at-walk-requires-clause-here : goal.walk_at-walk-requires-clause-here
walk_at-walk-requires-clause-here g c = c.requires.here

pub walk_at-walk-requires-clause-numbers : goal.walk_at-walk-requires-clause-numbers
walk_at-walk-requires-clause-numbers g c = c.requires.numbers

pub walk_at-walk-requires-clause-part : goal.walk_at-walk-requires-clause-part
walk_at-walk-requires-clause-part g c =
    let here = c.args.here.now in
    c.requires.part ∙ ap (shop_part 48 c.args.numbers.now here.site.0 (drop 1 here.depot.now)) (sym c.as_slice.ensures)

pub walk_at-walk-requires-clause-own : goal.walk_at-walk-requires-clause-own
walk_at-walk-requires-clause-own g c = c.requires.own

pub is_reached-requires-in-loop-s-clause-low : goal.is_reached-requires-in-loop-s-clause-low
is_reached-requires-in-loop-s-clause-low g c = c.requires.low

pub is_reached-requires-in-loop-s-clause-high : goal.is_reached-requires-in-loop-s-clause-high
is_reached-requires-in-loop-s-clause-high g c = c.requires.high

pub line_low-first-requires : goal.line_low-first-requires
line_low-first-requires g c = c.requires.here.site.1

pub line_high-last-requires : goal.line_high-last-requires
line_high-last-requires g c = c.requires.here.site.1

pub overflow_add-s : goal.overflow_add-s
overflow_add-s g c = omega (arith, c.loop-s-test.true, c.line_high-last.ensures.most)

pub overflow_sub-s : goal.overflow_sub-s
overflow_sub-s g c = omega (arith, c.loop-s.auto.s)

pub returns-clause-lower : goal.returns-clause-lower
returns-clause-lower g c = c.loop-s.invariant.lower

pub returns-then-is_reached-2-clause-lower : goal.returns-then-is_reached-2-clause-lower
returns-then-is_reached-2-clause-lower g c = c.loop-s.invariant.lower

pub returns-then-is_reached-clause-lower : goal.returns-then-is_reached-clause-lower
returns-then-is_reached-clause-lower g c = record { at_low = omega arith; at_high = omega arith }

pub walk_at-walk-requires-clause-shops : goal.walk_at-walk-requires-clause-shops
walk_at-walk-requires-clause-shops g c = subst (AreShopsAt c.args.here.now.family.now c.args.here.now.site.0) (sym c.as_slice.ensures) c.requires.shops.within
