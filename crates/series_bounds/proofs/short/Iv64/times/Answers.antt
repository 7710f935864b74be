use Rattle.std.proofs.Common.{◌*◌, ◌^◌, ◌≤◌, ◌∙◌, ap, ap₂, arith, lit<, pow_pos, mul-le-mul}
use Rattle.std.proofs.Math.Nat.{le_refl}
use Rattle.list_laws.proofs.Public.{floor_below_ceil}
use Rattle.fixed_interval.specs.Ends.{Ends, ends_mul}
use Rattle.series_bounds.proofs.Ranges.{weight_room}
use Rattle.series_bounds.proofs.short.Iv64.times.Goals as goal

pub product_down-lower-requires-clause-room : goal.product_down-lower-requires-clause-room
product_down-lower-requires-clause-room g c =
    let low = c.self.inside.lo * c.ratio.inside.lo in
    let high = c.self.inside.hi * c.ratio.inside.hi in
    let ordered = floor_below_ceil low (2 ^ g.row.F) high (2 ^ g.row.F) (mul-le-mul c.self.invariant.ordered c.ratio.invariant.ordered) (pow_pos g.row.F) (le_refl (2 ^ g.row.F)) in
    let top : c.self.inside.hi ≤ 8 * 2 ^ g.row.F = omega (arith, ap (λ (z : Ends). z.hi) c.self.view_is, c.requires.top) in
    let ratio_top : c.ratio.inside.hi ≤ 257 * 2 ^ g.row.F = omega (arith, ap (λ (z : Ends). z.hi) c.ratio.view_is, c.requires.ratio_top) in
    omega (arith, ordered, weight_room g.row.F c.self.inside.hi c.ratio.inside.hi c.self.invariant.most_scale top ratio_top)

pub product_up-upper-requires-clause-room : goal.product_up-upper-requires-clause-room
product_up-upper-requires-clause-room g c =
    let top : c.self.inside.hi ≤ 8 * 2 ^ g.row.F = omega (arith, ap (λ (z : Ends). z.hi) c.self.view_is, c.requires.top) in
    let ratio_top : c.ratio.inside.hi ≤ 257 * 2 ^ g.row.F = omega (arith, ap (λ (z : Ends). z.hi) c.ratio.view_is, c.requires.ratio_top) in
    weight_room g.row.F c.self.inside.hi c.ratio.inside.hi c.self.invariant.most_scale top ratio_top

pub of_ends-requires : goal.of_ends-requires
of_ends-requires g c =
    let low = c.self.inside.lo * c.ratio.inside.lo in
    let high = c.self.inside.hi * c.ratio.inside.hi in
    let ordered = floor_below_ceil low (2 ^ g.row.F) high (2 ^ g.row.F) (mul-le-mul c.self.invariant.ordered c.ratio.invariant.ordered) (pow_pos g.row.F) (le_refl (2 ^ g.row.F)) in
    (lit< tt, ((c.self.invariant.least_scale, c.self.invariant.most_scale), rw (c.product_down-lower.ensures, c.product_up-upper.ensures) ordered))

pub returns : goal.returns
returns g c =
    c.of_ends.ensures ∙ ap₂ (λ y z. record { lo = y; hi = z }) c.product_down-lower.ensures c.product_up-upper.ensures
    ∙ ap₂ (ends_mul g.row.F) c.self.view_is c.ratio.view_is
