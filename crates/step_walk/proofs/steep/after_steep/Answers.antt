use Rattle.std.proofs.Common.{◌≡◌, ℕ, ◌+◌, ◌-◌, ◌*◌, ◌/◌, ◌<◌, ◌≤◌, Bool, false, IsTrue, ◌↔◌, subst, arith}
use Rattle.step_walk.specs.Steep.{fall_at, rise_at}
use Rattle.step_walk.proofs.Steeper.{steep_up_to, flat_from, fall_read, rise_read}
use Rattle.step_walk.proofs.steep.after_steep.Goals as goal

not_steep : (a b : ℕ) (r : Bool) → IsTrue r ↔ (a < b) → r ≡ false → b ≤ a
not_steep a b r h e = grind arith

pub halves-preserved-then-is_steep : goal.halves-preserved-then-is_steep
halves-preserved-then-is_steep c =
    let i = c.halves.invariant in
    let curve = c.args.curve.now in
    let middle = c.halves.low + (c.halves.high - c.halves.low) / 2 in
    let below = i.below in
    let within = c.halves-test.true in
    let steep : c.args.price * rise_at curve middle < fall_at curve middle =
    subst (λ q. c.args.price * q < fall_at curve middle) (rise_read curve middle c.slope.result.q c.slope.ensures.rise)
    (subst (λ p. c.args.price * c.slope.result.q < p) (fall_read curve middle c.slope.result.p c.slope.ensures.fall) (c.is_steep.ensures.0 c.if-is_steep.true)) in
    record {
      shape = i.shape;
      order = omega (arith, within);
      below = below;
      steep = steep_up_to c.args.price curve i.shape.chain middle (omega (arith, within, below)) steep;
      flat = i.flat;
    }

pub halves-preserved : goal.halves-preserved
halves-preserved c =
    let i = c.halves.invariant in
    let curve = c.args.curve.now in
    let middle = c.halves.low + (c.halves.high - c.halves.low) / 2 in
    let below = i.below in
    let within = c.halves-test.true in
    let flat : fall_at curve middle ≤ c.args.price * rise_at curve middle =
    subst (λ q. fall_at curve middle ≤ c.args.price * q) (rise_read curve middle c.slope.result.q c.slope.ensures.rise)
    (subst (λ p. p ≤ c.args.price * c.slope.result.q) (fall_read curve middle c.slope.result.p c.slope.ensures.fall)
    (not_steep (c.args.price * c.slope.result.q) c.slope.result.p c.is_steep.result c.is_steep.ensures c.if-is_steep.false)) in
    record {
      shape = i.shape;
      order = omega arith;
      below = omega (arith, within, below);
      steep = i.steep;
      flat = flat_from c.args.price curve i.shape.chain middle (omega (arith, within, below)) flat;
    }
