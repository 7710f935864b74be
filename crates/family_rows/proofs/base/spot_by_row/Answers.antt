-- The spot stands for the choice's point.
use Rattle.std.proofs.Common.{◌≡◌, ℕ, ◌∷◌, [], List, get_or, ap, ◌∙◌, arith, length, ◌<◌}
use Rattle.std.proofs.lemmas.List.{length-map}
use Rattle.fixed_interval.specs.Ends.{Ends}
use Rattle.fleet_model.specs.Rows.{systems, per_system, weight}
use Rattle.hull.specs.declared.point.Point.{Point}
use Rattle.family_points.specs.Inputs.{shop_vectors}
use Rattle.family_points.specs.declared.order.ShopVector.{ShopVector}
use Rattle.family_points.specs.Choices.{choice_point}
use Rattle.family_points.proofs.Public.{stock_read}
use Rattle.family_rows.proofs.base.spot_by_row.Goals as goal

-- a point, part by part
spot_is : (cost lo hi line : ℕ) (shops : List ℕ) (p : Point) → cost ≡ p.cost → lo ≡ p.lo → hi ≡ p.hi → line ∷ shops ≡ p.stocks
    → record { cost = cost; lo = lo; hi = hi; stocks = line ∷ shops } ≡ p
spot_is cost lo hi line shops p a b e s =
    let made : ℕ → ℕ → ℕ → List ℕ → Point = λ cost lo hi stocks. record { cost = cost; lo = lo; hi = hi; stocks = stocks } in
    ap (λ n. made n lo hi (line ∷ shops)) a ∙ ap (λ n. made p.cost n hi (line ∷ shops)) b ∙ ap (λ n. made p.cost p.lo n (line ∷ shops)) e ∙ ap (made p.cost p.lo p.hi) s

pub returns : goal.returns
returns g c =
    let x = c.args.here.now.family.now in
    let j = c.args.here.now.site.0 in
    let d = c.args.here.now.depot.now in
    let v = c.args.choice.now in
    let shops = c.args.here.now.base.now.shops.items in
    let inside : v.shops < length shops = omega (arith, c.requires.choice.place, length-map shops (λ (s : ShopVector). s.stocks), ap length c.requires.here.base.stocks) in
    let stocks : c.as_slice.result.now ≡ get_or (shop_vectors x j) v.shops [] =
    c.as_slice.ensures ∙ stock_read shops v.shops c.index.result.now c.index.result.now (shop_vectors x j) c.requires.here.base.stocks inside c.index.ensures in
    let scored = c.score-scored.ensures
    ∙ ap (λ (e : Ends). g.S.Score.ends (systems x.case j) (per_system x.case x.line) (weight x.case x.line) e) c.backorders_of-backorders.ensures.ends in
    let lo = c.lo.ensures.end ∙ ap (λ (e : Ends). e.lo) scored in
    let hi = c.hi.ensures.end ∙ ap (λ (e : Ends). e.hi) scored in
    spot_is v.cost c.lo.result c.hi.result v.line c.as_slice.result.now (choice_point g.S.Score.ends x d j v) c.requires.choice.cost lo hi (ap (λ (s : List ℕ). v.line ∷ s) stocks)
