use Rattle.std.proofs.Common.{◌≡◌, ◌∙◌, ◌+◌, ◌/◌, ◌^◌, ap, arith}
use Rattle.quotients.proofs.Rough.{inverse_room, unit_room}
use Rattle.quotients.proofs.divisors.Divisor.by_guess.Goals as goal

pub overflow_cast-inverse : goal.overflow_cast-inverse
overflow_cast-inverse g c =
    let e : c.quotient_near-inverse.result ≡ 2 ^ (g.row.F + 62) / c.args.den = c.quotient_near-inverse.ensures ∙ ap (λ z. z / c.args.den) (unit_room g.row.F c.requires.scale) in
    record { fits = omega (arith, inverse_room g.row.F c.args.den c.quotient_near-inverse.result c.requires.least e) }

pub invariant_of-result : goal.invariant_of-result
invariant_of-result g c =
    let e : c.quotient_near-inverse.result ≡ 2 ^ (g.row.F + 62) / c.args.den = c.quotient_near-inverse.ensures ∙ ap (λ z. z / c.args.den) (unit_room g.row.F c.requires.scale) in
    record { scale = c.requires.scale; least = c.requires.least; most = c.requires.most; inverse_is = e }
