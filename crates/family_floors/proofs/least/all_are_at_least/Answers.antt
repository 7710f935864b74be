use Rattle.std.proofs.Common.{ℕ, ◌<◌, [], ◌∷◌, true, false, List, flat_map, get_or, length, refl, subst, arith}
use Rattle.hull.specs.declared.point.Point.{Point}
use Rattle.family_points.specs.Separation.{depot_points}
use Rattle.family_points.specs.Inputs.{line_stocks, shop_vectors}
use Rattle.family_points.specs.Least.{Decides}
use Rattle.family_points.proofs.Public.{shops_all, shops_below, shops_more, decides_all}
use Rattle.family_floors.proofs.least.all_are_at_least.Goals as goal

pub returns-then-not-branch : goal.returns-then-not-branch
returns-then-not-branch g c =
    let x = c.args.sources.now.family.now in
    let p = c.args.price.p in
    let q = c.args.price.q in
    let own : List ℕ → List Point = λ d. flat_map (λ s. depot_points g.S.Score.ends x (s ∷ d)) (line_stocks x 0) in
    let stocks : List ℕ = get_or (shop_vectors x 0) c.loop-n.n [] in
    let inside : c.loop-n.n < length (shop_vectors x 0) = omega (arith, c.loop-n-test.true, c.shop_count-n-end.ensures.count) in
    let low : Decides p q c.args.floor (own stocks) false = subst (Decides p q c.args.floor (own stocks)) c.if-not-branch.true c.in_ok-shops_are_at_least.ensures in
    decides_all x c.invariant.ensures.valid g.S.Score.ends p q c.args.floor false
    (shops_below p q c.args.floor own (shop_vectors x 0) c.loop-n.n stocks inside refl low)

pub loop-n-preserved : goal.loop-n-preserved
loop-n-preserved g c =
    let x = c.args.sources.now.family.now in
    let p = c.args.price.p in
    let q = c.args.price.q in
    let own : List ℕ → List Point = λ d. flat_map (λ s. depot_points g.S.Score.ends x (s ∷ d)) (line_stocks x 0) in
    let stocks : List ℕ = get_or (shop_vectors x 0) c.loop-n.n [] in
    let inside : c.loop-n.n < length (shop_vectors x 0) = omega (arith, c.loop-n-test.true, c.shop_count-n-end.ensures.count) in
    let high : Decides p q c.args.floor (own stocks) true = subst (Decides p q c.args.floor (own stocks)) c.if-not-branch.false c.in_ok-shops_are_at_least.ensures in
    shops_more p q c.args.floor own (shop_vectors x 0) c.loop-n.n stocks inside refl c.loop-n.invariant high

pub returns : goal.returns
returns g c =
    let x = c.args.sources.now.family.now in
    let own : List ℕ → List Point = λ d. flat_map (λ s. depot_points g.S.Score.ends x (s ∷ d)) (line_stocks x 0) in
    decides_all x c.invariant.ensures.valid g.S.Score.ends c.args.price.p c.args.price.q c.args.floor true
    (shops_all c.args.price.p c.args.price.q c.args.floor own (shop_vectors x 0) c.loop-n.n (omega (arith, c.loop-n-test.false, c.shop_count-n-end.ensures.count)) c.loop-n.invariant)

pub shops_are_at_least-requires-clause-sources : goal.shops_are_at_least-requires-clause-sources
shops_are_at_least-requires-clause-sources g c = c.requires.sources

pub shops_are_at_least-requires-clause-most_money : goal.shops_are_at_least-requires-clause-most_money
shops_are_at_least-requires-clause-most_money g c = c.requires.most_money

pub shops_are_at_least-requires-clause-price : goal.shops_are_at_least-requires-clause-price
shops_are_at_least-requires-clause-price g c = c.requires.price

pub shops_are_at_least-requires-clause-number : goal.shops_are_at_least-requires-clause-number
shops_are_at_least-requires-clause-number g c = omega (arith, c.loop-n-test.true, c.shop_count-n-end.ensures.count)

pub shop_count-n-end-requires : goal.shop_count-n-end-requires
shop_count-n-end-requires g c = let some = c.invariant.ensures.valid.valid.frame.fewest_sites in omega (arith, some)
