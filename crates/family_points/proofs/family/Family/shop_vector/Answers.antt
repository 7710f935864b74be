use Rattle.std.proofs.Common.{◌≡◌, ℕ, ◌<◌, List, length, drop, sym, ap, ap₂, ◌∙◌, subst}
use Rattle.std.proofs.lemmas.Result.{IfOk-weaker}
use Rattle.family_points.specs.Vectors.{IsBetween}
use Rattle.family_points.specs.Counts.{product, widths}
use Rattle.family_points.specs.Boxes.{nth}
use Rattle.family_points.specs.Inputs.{shop_high, shop_low}
use Rattle.family_points.proofs.Numbers.{nth_is, vectors_count}
use Rattle.family_points.proofs.Points.{high_some, low_some, nth_between}
use Rattle.family_points.proofs.Shops.{box_shops}
use Rattle.family_points.proofs.family.Family.shop_vector.Goals as goal

pub shops_of-low-requires : goal.shops_of-low-requires
shops_of-low-requires c = subst (λ (v : List ℕ). 0 < length v) (sym c.low.ensures) (low_some c.args.self.now c.invariant.ensures.valid c.args.site.0 c.requires.site)

pub shops_of-high-requires : goal.shops_of-high-requires
shops_of-high-requires c = subst (λ (v : List ℕ). 0 < length v) (sym c.high.ensures.high) (high_some c.args.self.now c.invariant.ensures.valid c.args.site.0 c.requires.site)

pub vector_at-requires-clause-bounds : goal.vector_at-requires-clause-bounds
vector_at-requires-clause-bounds c =
    let x = c.args.self.now in
    let k = c.args.site.0 in
    let low : c.shops_of-low.result.now ≡ shop_low x k = c.shops_of-low.ensures ∙ ap (drop 1) c.low.ensures in
    let high : c.shops_of-high.result.now ≡ shop_high x k = c.shops_of-high.ensures ∙ ap (drop 1) c.high.ensures.high in
    let box = box_shops x c.invariant.ensures.valid k c.requires.site in
    rw (low, high) box

pub vector_at-requires-clause-within : goal.vector_at-requires-clause-within
vector_at-requires-clause-within c =
    let x = c.args.self.now in
    let k = c.args.site.0 in
    let low : c.shops_of-low.result.now ≡ shop_low x k = c.shops_of-low.ensures ∙ ap (drop 1) c.low.ensures in
    let high : c.shops_of-high.result.now ≡ shop_high x k = c.shops_of-high.ensures ∙ ap (drop 1) c.high.ensures.high in
    let box = box_shops x c.invariant.ensures.valid k c.requires.site in
    subst (λ n. c.args.number < n) (vectors_count (shop_low x k) (shop_high x k) box.ordered ∙ ap₂ (λ a b. product (widths a b)) (sym low) (sym high)) c.requires.within

pub returns : goal.returns
returns c =
    let x = c.args.self.now in
    let k = c.args.site.0 in
    let low : c.shops_of-low.result.now ≡ shop_low x k = c.shops_of-low.ensures ∙ ap (drop 1) c.low.ensures in
    let high : c.shops_of-high.result.now ≡ shop_high x k = c.shops_of-high.ensures ∙ ap (drop 1) c.high.ensures.high in
    let box = box_shops x c.invariant.ensures.valid k c.requires.site in
    let within = subst (λ n. c.args.number < n) (vectors_count (shop_low x k) (shop_high x k) box.ordered) c.requires.within in
    record {
      vector = IfOk-weaker c.vector_at.result _ _ (λ v made. made ∙ ap₂ (λ a b. nth a b c.args.number) low high ∙ sym (nth_is (shop_low x k) (shop_high x k) c.args.number box.ordered within)) c.vector_at.ensures;
      within = IfOk-weaker c.vector_at.result _ _ (λ v made. subst (IsBetween (shop_low x k) (shop_high x k)) (sym (made ∙ ap₂ (λ a b. nth a b c.args.number) low high))
          (nth_between (shop_low x k) (shop_high x k) c.args.number box.ordered within)) c.vector_at.ensures;
    }
