use Rattle.std.proofs.Common.{◌*◌, ◌^◌, ◌<◌, ◌≤◌, ◌∙◌, ap, ap₂, arith, lit<, rules, pow_pos, mul-le-mul, mul-le-mul_left}
use Rattle.std.proofs.Math.Nat.{le_refl}
use Rattle.list_laws.proofs.Public.{ceil_most, floor_below_ceil}
use Rattle.fixed_interval.specs.Ends.{Ends, ends_mul}
use Rattle.series_bounds.proofs.short.Iv64.times_part.Goals as goal

pub product_down-lower-requires-clause-room : goal.product_down-lower-requires-clause-room
product_down-lower-requires-clause-room g c =
    let low = c.self.inside.lo * c.part.inside.lo in
    let high = c.self.inside.hi * c.part.inside.hi in
    let ordered = floor_below_ceil low (2 ^ g.row.F) high (2 ^ g.row.F) (mul-le-mul c.self.invariant.ordered c.part.invariant.ordered) (pow_pos g.row.F) (le_refl (2 ^ g.row.F)) in
    let part : c.part.inside.hi ≤ 2 ^ g.row.F = omega (arith, ap (λ (z : Ends). z.hi) c.part.view_is, c.requires) in
    let most = ceil_most high (2 ^ g.row.F) c.self.inside.hi (pow_pos g.row.F) (mul-le-mul_left c.self.inside.hi part) in
    let w : c.self.inside.hi < 2 ^ 64 = search rules in
    omega (arith, ordered, most, w)

pub product_up-upper-requires-clause-room : goal.product_up-upper-requires-clause-room
product_up-upper-requires-clause-room g c =
    let high = c.self.inside.hi * c.part.inside.hi in
    let part : c.part.inside.hi ≤ 2 ^ g.row.F = omega (arith, ap (λ (z : Ends). z.hi) c.part.view_is, c.requires) in
    let most = ceil_most high (2 ^ g.row.F) c.self.inside.hi (pow_pos g.row.F) (mul-le-mul_left c.self.inside.hi part) in
    let w : c.self.inside.hi < 2 ^ 64 = search rules in
    omega (arith, most, w)

pub of_ends-requires : goal.of_ends-requires
of_ends-requires g c =
    let low = c.self.inside.lo * c.part.inside.lo in
    let high = c.self.inside.hi * c.part.inside.hi in
    let ordered = floor_below_ceil low (2 ^ g.row.F) high (2 ^ g.row.F) (mul-le-mul c.self.invariant.ordered c.part.invariant.ordered) (pow_pos g.row.F) (le_refl (2 ^ g.row.F)) in
    (lit< tt, ((c.self.invariant.least_scale, c.self.invariant.most_scale), rw (c.product_down-lower.ensures, c.product_up-upper.ensures) ordered))

pub returns : goal.returns
returns g c =
    c.of_ends.ensures ∙ ap₂ (λ y z. record { lo = y; hi = z }) c.product_down-lower.ensures c.product_up-upper.ensures
    ∙ ap₂ (ends_mul g.row.F) c.self.view_is c.part.view_is
