use Rattle.std.proofs.Common.{◌<◌, ◌≤◌, length, refl, sym, subst, ◌∙◌, arith}
use Rattle.std.specs.List.{All}
use Rattle.std.proofs.lemmas.List.{take_all}
use Rattle.std.proofs.lemmas.List.Elements.{All-push}
use Rattle.family_points.specs.Inputs.{shop_vectors}
use Rattle.family_points.specs.Choices.{IsShopVector}
use Rattle.family_points.proofs.Spotted.{stocks_more}
use Rattle.family_points.proofs.order.shops_of_base.Goals as goal

pub loop-n-preserved : goal.loop-n-preserved
loop-n-preserved c =
    let x = c.args.family.now in
    let j = c.args.site.0 in
    let within : c.loop-n.n < length (shop_vectors x j) = omega (arith, c.loop-n-test.true, c.shop_count-count.ensures.count) in
    let made = c.in_ok-shops_at.ensures in
    record {
      stocks = stocks_more c.loop-n.shops.items c.push.new.self.items _ (shop_vectors x j) c.loop-n.n _ c.in_ok-push.ensures.items c.loop-n.invariant.stocks within made.stocks refl;
      are_vectors = subst (All (IsShopVector x j)) (sym c.in_ok-push.ensures.items)
          (All-push (IsShopVector x j) c.loop-n.shops.items _ c.loop-n.invariant.are_vectors made.costs);
    }

pub returns : goal.returns
returns c =
    let x = c.args.family.now in
    let j = c.args.site.0 in
    let all : length (shop_vectors x j) ≤ c.loop-n.n = omega (arith, c.loop-n-test.false, c.shop_count-count.ensures.count) in
    record { stocks = c.loop-n.invariant.stocks ∙ take_all c.loop-n.n (shop_vectors x j) all; costs = c.loop-n.invariant.are_vectors }
