use Rattle.std.proofs.Common.{◌≡◌, ℕ, suc, true, false, ◌+◌, ◌-◌, ◌≤◌, ◌∷◌, ◌∙◌, List, drop, length, set, flat_map, sym, ap, subst, refl, arith}
use Rattle.std.specs.List.{range_with_len}
use Rattle.list_laws.proofs.Public.{set_first}
use Rattle.hull.specs.declared.point.Point.{Point}
use Rattle.family_points.specs.Separation.{depot_points}
use Rattle.family_points.specs.Inputs.{IsAt, line_high, line_low}
use Rattle.family_points.specs.Least.{AreAtLeast, Decides}
use Rattle.family_points.proofs.Public.{decides_true, stock_below, stock_more, joined_at}
use Rattle.family_rows.specs.Tabled.{AreTables}
use Rattle.family_floors.proofs.least.are_at_least.Goals as goal

pub depot_is_at_least-requires-clause-depot : goal.depot_is_at_least-requires-clause-depot
depot_is_at_least-requires-clause-depot g c =
    let x = c.args.sources.now.family.now in
    let valid = c.invariant.ensures.valid in
    let some = valid.valid.frame.fewest_sites in
    let s : ℕ = c.loop-s.s in
    let low : line_low x 0 ≤ s = omega (arith, c.line_low-low.ensures, c.loop-s.auto.s) in
    let high : s ≤ line_high x 0 = omega (arith, c.line_high-high.ensures.high, c.loop-s-test.true) in
    let made : set c.loop-s.stocks 0 s ≡ s ∷ drop 1 c.args.stocks.now =
    set_first c.loop-s.stocks s c.loop-s.invariant.some ∙ ap (λ (l : List ℕ). s ∷ l) c.loop-s.invariant.shops in
    subst (IsAt x 0) (sym made) (joined_at x valid 0 s (drop 1 c.args.stocks.now) (omega (arith, some)) c.requires.shops low high)

pub depot_is_at_least-requires-clause-tables : goal.depot_is_at_least-requires-clause-tables
depot_is_at_least-requires-clause-tables g c =
    let made : drop 1 (set c.loop-s.stocks 0 c.loop-s.s) ≡ drop 1 c.args.stocks.now =
    ap (drop 1) (set_first c.loop-s.stocks c.loop-s.s c.loop-s.invariant.some) ∙ c.loop-s.invariant.shops in
    subst (λ (l : List ℕ). AreTables c.args.sources.now.family.now l c.args.tables.now) (sym made) c.requires.tables

pub returns-then-not-branch : goal.returns-then-not-branch
returns-then-not-branch g c =
    let x = c.args.sources.now.family.now in
    let p = c.args.price.p in
    let q = c.args.price.q in
    let s : ℕ = c.loop-s.s in
    let at : List ℕ → List Point = depot_points g.S.Score.ends x in
    let low : line_low x 0 ≤ s = omega (arith, c.line_low-low.ensures, c.loop-s.auto.s) in
    let high : s ≤ line_high x 0 = omega (arith, c.line_high-high.ensures.high, c.loop-s-test.true) in
    let made : set c.loop-s.stocks 0 s ≡ s ∷ drop 1 c.args.stocks.now =
    set_first c.loop-s.stocks s c.loop-s.invariant.some ∙ ap (λ (l : List ℕ). s ∷ l) c.loop-s.invariant.shops in
    stock_below p q c.args.floor (λ k. at (k ∷ drop 1 c.args.stocks.now)) (line_low x 0) s (suc (line_high x 0) - line_low x 0) low
    (omega (arith, low, high)) (subst (λ (v : List ℕ). Decides p q c.args.floor (at v) false) made
    (subst (Decides p q c.args.floor (at (set c.loop-s.stocks 0 s))) c.if-not-branch.true c.in_ok-depot_is_at_least.ensures))

pub loop-s-preserved : goal.loop-s-preserved
loop-s-preserved g c =
    let x = c.args.sources.now.family.now in
    let p = c.args.price.p in
    let q = c.args.price.q in
    let s : ℕ = c.loop-s.s in
    let at : List ℕ → List Point = depot_points g.S.Score.ends x in
    let low : line_low x 0 ≤ s = omega (arith, c.line_low-low.ensures, c.loop-s.auto.s) in
    let first : set c.loop-s.stocks 0 s ≡ s ∷ drop 1 c.loop-s.stocks = set_first c.loop-s.stocks s c.loop-s.invariant.some in
    let made : set c.loop-s.stocks 0 s ≡ s ∷ drop 1 c.args.stocks.now = first ∙ ap (λ (l : List ℕ). s ∷ l) c.loop-s.invariant.shops in
    record {
      least = stock_more p q c.args.floor (λ k. at (k ∷ drop 1 c.args.stocks.now)) (line_low x 0) s low c.loop-s.invariant.least
          (subst (λ (v : List ℕ). Decides p q c.args.floor (at v) true) made
          (subst (Decides p q c.args.floor (at (set c.loop-s.stocks 0 s))) c.if-not-branch.false c.in_ok-depot_is_at_least.ensures));
      some = omega (arith, ap length first);
      shops = ap (drop 1) first ∙ c.loop-s.invariant.shops;
    }

pub returns : goal.returns
returns g c =
    let x = c.args.sources.now.family.now in
    let f : ℕ → List Point = λ s. depot_points g.S.Score.ends x (s ∷ drop 1 c.args.stocks.now) in
    let end : c.loop-s.s ≤ c.line_high-high.result + 1 = c.loop-s.auto.s-end (omega (arith, c.line_low-low.ensures, c.line_high-high.ensures.high, c.line_high-high.ensures.order)) in
    let last : c.loop-s.s - line_low x 0 ≡ suc (line_high x 0) - line_low x 0 = omega (arith, c.loop-s-test.false, end, c.line_high-high.ensures.high) in
    decides_true c.args.price.p c.args.price.q c.args.floor (flat_map f (range_with_len (line_low x 0) (suc (line_high x 0) - line_low x 0)))
    (subst (λ n. AreAtLeast c.args.price.p c.args.price.q c.args.floor (flat_map f (range_with_len (line_low x 0) n))) last c.loop-s.invariant.least)

pub depot_is_at_least-requires-clause-sources : goal.depot_is_at_least-requires-clause-sources
depot_is_at_least-requires-clause-sources g c = c.requires.sources

pub depot_is_at_least-requires-clause-most_money : goal.depot_is_at_least-requires-clause-most_money
depot_is_at_least-requires-clause-most_money g c = c.requires.most_money

pub depot_is_at_least-requires-clause-price : goal.depot_is_at_least-requires-clause-price
depot_is_at_least-requires-clause-price g c = c.requires.price

pub loop-s-init : goal.loop-s-init
loop-s-init g c =
    let x = c.args.sources.now.family.now in
    let at : List ℕ → List Point = depot_points g.S.Score.ends x in
    let none : c.line_low-low.result - line_low x 0 ≡ 0 = omega (arith, c.line_low-low.ensures) in
    record {
      least = subst (λ n. AreAtLeast c.args.price.p c.args.price.q c.args.floor (flat_map (λ s. at (s ∷ drop 1 c.args.stocks.now)) (range_with_len (line_low x 0) n))) (sym none)
          (λ v m. absurd m);
      some = c.requires.some;
      shops = refl;
    }

pub bounds-stocks-0 : goal.bounds-stocks-0
bounds-stocks-0 g c = c.loop-s.invariant.some

pub line_low-low-requires : goal.line_low-low-requires
line_low-low-requires g c = let some = c.invariant.ensures.valid.valid.frame.fewest_sites in omega (arith, some)

pub line_high-high-requires : goal.line_high-high-requires
line_high-high-requires g c = let some = c.invariant.ensures.valid.valid.frame.fewest_sites in omega (arith, some)

pub overflow_add-s-end : goal.overflow_add-s-end
overflow_add-s-end g c = omega (arith, c.line_high-high.ensures.most)
