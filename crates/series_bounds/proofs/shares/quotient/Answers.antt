use Rattle.std.proofs.Common.{◌^◌, ◌*◌, ◌≡◌, ◌∙◌, ◌<◌, ◌≤◌, arith, sym, subst, le_trans, mul-le-mul_right, lit<, pow_pos}
use Rattle.std.proofs.Math.Nat.{lt_of_le_of_lt, mul-pos}
use Rattle.fixed_interval.specs.Ends.{Ends}
use Rattle.series_bounds.proofs.Carried.{shift_below, shift_fits, shift_is, shift_least, shift_most, shifted_share}
use Rattle.series_bounds.proofs.Ranges.{room_over}
use Rattle.series_bounds.proofs.shares.quotient.Goals as goal

pub div-requires : goal.div-requires
div-requires g c =
    (lit< tt, (c.requires.divisor, room_over g.row.F c.args.a.hi c.hi.ensures.valid.most_scale (omega (arith, pow_pos g.row.F, c.requires.room))))

pub places_to-places-requires : goal.places_to-places-requires
places_to-places-requires g c = c.hi.ensures.valid.most_scale

pub of-upper-requires : goal.of-upper-requires
of-upper-requires g c =
    let p = 2 ^ c.places_to-places.result in
    let least : 2 ^ g.row.F ≤ c.args.b.lo * p = shift_least (2 ^ g.row.F) c.lo.result c.args.b.lo p c.lo.ensures.end c.requires.divisor c.places_to-places.ensures.least in
    let most : c.args.b.hi * p < 2 ^ 63 = shift_below c.args.b.hi (2 ^ 63) p (rw (← c.hi-then-hi-2-2.ensures.end) c.if-most-places.true) in (
      lit< tt,
      (
        c.hi.ensures.valid.most_scale,
        shift_fits (2 ^ g.row.F) c.hi-then-hi-2-2.result c.args.b.hi p c.hi-then-hi-2-2.ensures.end (le_trans least (mul-le-mul_right p c.lo.ensures.valid.ordered)) most,
      ),
    )

pub beside-lower-requires : goal.beside-lower-requires
beside-lower-requires g c =
    let p = 2 ^ c.places_to-places.result in
    let least : 2 ^ g.row.F ≤ c.args.b.lo * p = shift_least (2 ^ g.row.F) c.lo.result c.args.b.lo p c.lo.ensures.end c.requires.divisor c.places_to-places.ensures.least in
    let most : c.args.b.hi * p < 2 ^ 63 = shift_below c.args.b.hi (2 ^ 63) p (rw (← c.hi-then-hi-2-2.ensures.end) c.if-most-places.true) in (
      lit< tt,
      (
        c.hi.ensures.valid.most_scale,
        shift_fits (2 ^ g.row.F) c.lo.result c.args.b.lo p c.lo.ensures.end least (lt_of_le_of_lt (mul-le-mul_right p c.lo.ensures.valid.ordered) most),
      ),
    )

pub shifted-requires : goal.shifted-requires
shifted-requires g c =
    let most = shift_most c.hi-then-hi-2.result c.args.a.hi (2 ^ 62) (2 ^ c.places_to-places.result) c.hi-then-hi-2.ensures.end c.if-top-places.true in
    (lit< tt, (lit< tt, (c.places_to-places.ensures.few, lt_of_le_of_lt most (lit< tt))))

pub over-requires : goal.over-requires
over-requires g c =
    let p = 2 ^ c.places_to-places.result in
    let v = c.lo.ensures.valid.ordered in
    let most : c.args.b.hi * p < 2 ^ 63 = shift_below c.args.b.hi (2 ^ 63) p (rw (← c.hi-then-hi-2-2.ensures.end) c.if-most-places.true) in
    let least : c.args.b.lo * p ≤ c.args.b.hi * p = mul-le-mul_right p v in
    let upper : c.of-upper.result ≡ c.args.b.hi * p = c.of-upper.ensures ∙ shift_is c.hi-then-hi-2-2.result c.args.b.hi p c.hi-then-hi-2-2.ensures.end most in
    let lower : c.beside-lower.result ≡ c.args.b.lo * p = c.beside-lower.ensures ∙ shift_is c.lo.result c.args.b.lo p c.lo.ensures.end (lt_of_le_of_lt least most) in
    let top = shift_most c.hi-then-hi-2.result c.args.a.hi (2 ^ 62) p c.hi-then-hi-2.ensures.end c.if-top-places.true in (
      lit< tt,
      (
        lit< tt,
        (
          subst (λ (z : Ends). z.hi ≤ 2 ^ 62) (sym c.shifted.ensures) top,
          (rw lower (mul-pos c.requires.divisor (pow_pos c.places_to-places.result)), rw (lower, upper) least),
        ),
      ),
    )

pub returns-then-most-places : goal.returns-then-most-places
returns-then-most-places g c =
    let v = c.lo.ensures.valid.ordered in
    let p = 2 ^ c.places_to-places.result in
    let most : c.args.b.hi * p < 2 ^ 63 = shift_below c.args.b.hi (2 ^ 63) p (rw (← c.hi-then-hi-2-2.ensures.end) c.if-most-places.true) in
    let least : c.args.b.lo * p ≤ c.args.b.hi * p = mul-le-mul_right p v in
    let upper : c.of-upper.result ≡ c.args.b.hi * p = c.of-upper.ensures ∙ shift_is c.hi-then-hi-2-2.result c.args.b.hi p c.hi-then-hi-2-2.ensures.end most in
    let lower : c.beside-lower.result ≡ c.args.b.lo * p = c.beside-lower.ensures ∙ shift_is c.lo.result c.args.b.lo p c.lo.ensures.end (lt_of_le_of_lt least most) in
    c.open.ensures ∙ c.over.ensures ∙ shifted_share g.row.F p c.args.a c.args.b c.shifted.result c.of-upper.result c.beside-lower.result c.requires.divisor (le_trans c.requires.divisor v) (pow_pos c.places_to-places.result) c.shifted.ensures upper lower
