use Rattle.std.proofs.Common.{◌≡◌, ◌<◌, ◌≤◌, ◌+◌, ◌-◌, ◌*◌, ◌^◌, ap, arith, subst, mul-le-mul}
use Rattle.series_bounds.specs.Profile.{pivot_at, weight_ends}
use Rattle.backorder_bounds.specs.Coarse.{coarse_unit}
use Rattle.backorder_bounds.proofs.Starts.{at_pivot, down_high, down_low}
use Rattle.backorder_bounds.proofs.lead.walked_down.Goals as goal

pub loop-k-init : goal.loop-k-init
loop-k-init c = record {
  low_room = omega arith;
  high_room = omega arith;
  ends = λ f m d e h i. at_pivot f m d (c.args.pivot - 0) h.places (omega (arith, e));
}

pub product-low-requires : goal.product-low-requires
product-low-requires c =
    let a : c.loop-k.low * c.squares_over.result ≤ 8 * 2 ^ 36 * (16 * 2 ^ 36) = mul-le-mul c.loop-k.invariant.low_room c.squares_over.ensures.most in
    omega (arith, a)

pub product-high-requires : goal.product-high-requires
product-high-requires c =
    let a : c.loop-k.high * (c.squares_over-in-loop-k.result + 1) ≤ 8 * 2 ^ 36 * (17 * 2 ^ 36) = mul-le-mul {n₁ = c.loop-k.high} {m₁ = c.squares_over-in-loop-k.result + 1} {n₂ = 8 * 2 ^ 36} {m₂ = 17 * 2 ^ 36} c.loop-k.invariant.high_room (omega (arith, c.squares_over-in-loop-k.ensures.most)) in
    omega (arith, a)

pub loop-k-preserved : goal.loop-k-preserved
loop-k-preserved c =
    let x = c.args.pivot - c.loop-k.k in
    let z : x - 1 ≡ c.args.pivot - (c.loop-k.k + 1) = omega (arith, c.loop-k-test.true) in
    let n : 0 < x = omega (arith, c.loop-k-test.true) in
    let q : 0 < c.number_at-below.result = omega (arith, c.if-below-lt-UNIT.false) in
    record {
      low_room = omega (arith, c.if-low-gt-MOST.false);
      high_room = omega (arith, c.if-high-gt-MOST.false);
      ends = λ f m d e h i.
          let l : x ≤ pivot_at f m d = omega (arith, e) in
          let before = c.loop-k.invariant.ends f m d e h i in
          let a : c.product-low.result * coarse_unit f ≤ (weight_ends f m d (x - 1)).lo =
          down_low f m d c.args.over c.args.under x h n l c.loop-k.low c.squares_over.result c.number_at-above.result c.product-low.result c.number_at-above.ensures.number c.squares_over.ensures.ratio c.product-low.ensures before.0 in
          let b : (weight_ends f m d (x - 1)).hi ≤ (c.product-high.result + 1) * coarse_unit f =
          down_high f m d c.args.over c.args.under x h n l i c.loop-k.high c.squares_over-in-loop-k.result c.number_at-below.result (c.product-high.result + 1) q c.number_at-below.ensures.number
          c.squares_over-in-loop-k.ensures.ratio (ap (λ y. y + 1) c.product-high.ensures) before.1 in
          (subst (λ y. c.product-low.result * coarse_unit f ≤ (weight_ends f m d y).lo) z a, subst (λ y. (weight_ends f m d y).hi ≤ (c.product-high.result + 1) * coarse_unit f) z b);
    }
