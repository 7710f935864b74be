use Rattle.std.proofs.Common.{◌≡◌, map, take}
use Rattle.std.specs.List.{All}
use Rattle.family_points.specs.declared.order.ShopVector.{ShopVector}
use Rattle.family_points.specs.Inputs.{shop_vectors}
use Rattle.family_points.specs.Choices.{IsShopVector}
use Rattle.family_points.proofs.order.shops_of_base.Given as goal

abbrev pub invariant-loop-n : goal.invariant-loop-n
invariant-loop-n l = record {
  stocks : map (λ (v : ShopVector). v.stocks) l.shops.items ≡ take l.n (shop_vectors l.family l.fn.site.0);
  are_vectors : All (IsShopVector l.family l.fn.site.0) l.shops.items;
}
