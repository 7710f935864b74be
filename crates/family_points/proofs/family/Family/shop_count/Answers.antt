use Rattle.std.proofs.Common.{◌≡◌, ℕ, ◌<◌, List, length, drop, sym, ap, ap₂, ◌∙◌, subst}
use Rattle.family_points.specs.Counts.{product, widths}
use Rattle.family_points.specs.Inputs.{shop_high, shop_low}
use Rattle.family_points.proofs.Numbers.{product_some, vectors_count}
use Rattle.family_points.proofs.Points.{high_some, low_some}
use Rattle.family_points.proofs.Shops.{box_shops}
use Rattle.family_points.proofs.family.Family.shop_count.Goals as goal

pub shops_of-low-requires : goal.shops_of-low-requires
shops_of-low-requires c = subst (λ (v : List ℕ). 0 < length v) (sym c.low.ensures) (low_some c.args.self.now c.invariant.ensures.valid c.args.site.0 c.requires)

pub shops_of-high-requires : goal.shops_of-high-requires
shops_of-high-requires c = subst (λ (v : List ℕ). 0 < length v) (sym c.high.ensures.high) (high_some c.args.self.now c.invariant.ensures.valid c.args.site.0 c.requires)

pub count-requires : goal.count-requires
count-requires c =
    let x = c.args.self.now in
    let k = c.args.site.0 in
    let low : c.shops_of-low.result.now ≡ shop_low x k = c.shops_of-low.ensures ∙ ap (drop 1) c.low.ensures in
    let high : c.shops_of-high.result.now ≡ shop_high x k = c.shops_of-high.ensures ∙ ap (drop 1) c.high.ensures.high in
    let box = box_shops x c.invariant.ensures.valid k c.requires in
    rw (low, high) box

pub returns-clause-count : goal.returns-clause-count
returns-clause-count c =
    let x = c.args.self.now in
    let k = c.args.site.0 in
    let low : c.shops_of-low.result.now ≡ shop_low x k = c.shops_of-low.ensures ∙ ap (drop 1) c.low.ensures in
    let high : c.shops_of-high.result.now ≡ shop_high x k = c.shops_of-high.ensures ∙ ap (drop 1) c.high.ensures.high in
    let box = box_shops x c.invariant.ensures.valid k c.requires in
    c.count.ensures.count ∙ ap₂ (λ a b. product (widths a b)) low high ∙ sym (vectors_count (shop_low x k) (shop_high x k) box.ordered)

pub returns-clause-some : goal.returns-clause-some
returns-clause-some c =
    let x = c.args.self.now in
    let k = c.args.site.0 in
    let low : c.shops_of-low.result.now ≡ shop_low x k = c.shops_of-low.ensures ∙ ap (drop 1) c.low.ensures in
    let high : c.shops_of-high.result.now ≡ shop_high x k = c.shops_of-high.ensures ∙ ap (drop 1) c.high.ensures.high in
    let box = box_shops x c.invariant.ensures.valid k c.requires in
    subst (λ n. 0 < n) (sym (c.count.ensures.count ∙ ap₂ (λ a b. product (widths a b)) low high)) (product_some (shop_low x k) (shop_high x k) box.ordered)
