use Rattle.std.proofs.Common.{◌≡◌, ℕ, ◌<◌, ◌≤◌, List, [], ◌∷◌, ◌++◌, get_or, length, map, flat_map, sym, ap, ◌∙◌, subst, arith}
use Rattle.std.proofs.lemmas.List.{length-map, take_all}
use Rattle.family_points.specs.declared.order.ShopVector.{ShopVector}
use Rattle.family_points.specs.Inputs.{line_stocks, shop_vectors}
use Rattle.family_points.specs.Choices.{IsShopVector}
use Rattle.family_points.proofs.Points.{flat_next}
use Rattle.family_points.proofs.Spotted.{stock_read}
use Rattle.family_points.proofs.order.choices_of.Goals as goal

pub put_choices-requires-clause-shops : goal.put_choices-requires-clause-shops
put_choices-requires-clause-shops c =
    let shops = c.index-shops-n.result in
    subst (IsShopVector c.args.family.now c.args.site.0) (sym c.index-shops-n.is) (c.requires.costs c.loop-n.n shops c.loop-n-test.true)

pub put_choices-requires-clause-place : goal.put_choices-requires-clause-place
put_choices-requires-clause-place c = omega (arith, c.loop-n-test.true, length-map c.args.shops.now (λ (v : ShopVector). v.stocks), ap length c.requires.stocks)

pub put_choices-requires-clause-here : goal.put_choices-requires-clause-here
put_choices-requires-clause-here c =
    let shops = c.index-shops-n.result in
    stock_read c.args.shops.now c.loop-n.n shops shops (shop_vectors c.args.family.now c.args.site.0) c.requires.stocks c.loop-n-test.true c.index-shops-n.is

pub loop-n-preserved : goal.loop-n-preserved
loop-n-preserved c =
    let x = c.args.family.now in
    let j = c.args.site.0 in
    let shops = c.index-shops-n.result in
    let all : List (List ℕ) = shop_vectors x j in
    let own : List ℕ → List (List ℕ) = λ v. map (λ s. s ∷ v) (line_stocks x j) in
    let within : c.loop-n.n < length all = omega (arith, c.loop-n-test.true, length-map c.args.shops.now (λ (v : ShopVector). v.stocks), ap length c.requires.stocks) in
    let here : shops.stocks ≡ get_or all c.loop-n.n [] = stock_read c.args.shops.now c.loop-n.n shops shops all c.requires.stocks c.loop-n-test.true c.index-shops-n.is in
    record {
      stocks = c.in_ok-put_choices.ensures.stocks ∙ ap (λ (l : List (List ℕ)). l ++ own shops.stocks) c.loop-n.invariant.stocks
          ∙ sym (flat_next own all c.loop-n.n shops.stocks within here);
      choices = c.in_ok-put_choices.ensures.choices;
    }

pub returns-clause-stocks : goal.returns-clause-stocks
returns-clause-stocks c =
    let x = c.args.family.now in
    let j = c.args.site.0 in
    let all : length (shop_vectors x j) ≤ c.loop-n.n =
    omega (arith, c.loop-n-test.false, length-map c.args.shops.now (λ (v : ShopVector). v.stocks), ap length c.requires.stocks) in
    c.loop-n.invariant.stocks
    ∙ ap (flat_map (λ (v : List ℕ). map (λ s. s ∷ v) (line_stocks x j))) (take_all c.loop-n.n (shop_vectors x j) all)
