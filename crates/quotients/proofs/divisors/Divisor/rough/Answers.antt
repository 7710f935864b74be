use Rattle.std.proofs.Common.{◌∙◌, ◌*◌, ◌/◌, ◌^◌, ap₂, arith, refl}
use Rattle.quotients.proofs.Rough.{rough_is, rough_room, inverse_room}
use Rattle.quotients.proofs.divisors.Divisor.rough.Goals as goal

pub overflow_sub-left : goal.overflow_sub-left
overflow_sub-left g c =
    (rough_is g.row.F c.self.inside.den c.self.inside.inverse c.args.num c.from.result c.from-2.result c.from-3.result c.from-4.result c.from-5.result _ c.self.invariant c.requires c.from.ensures c.from-2.ensures c.from-3.ensures c.from-5.ensures c.from-4.ensures refl).0

pub overflow_cast-left-2 : goal.overflow_cast-left-2
overflow_cast-left-2 g c =
    let h = (rough_is g.row.F c.self.inside.den c.self.inside.inverse c.args.num c.from.result c.from-2.result c.from-3.result c.from-4.result c.from-5.result _ c.self.invariant c.requires c.from.ensures c.from-2.ensures c.from-3.ensures c.from-5.ensures c.from-4.ensures refl).1 in
    record { fits = omega (arith, h.short, c.self.invariant.most) }

pub returns : goal.returns
returns g c =
    let h = (rough_is g.row.F c.self.inside.den c.self.inside.inverse c.args.num c.from.result c.from-2.result c.from-3.result c.from-4.result c.from-5.result _ c.self.invariant c.requires c.from.ensures c.from-2.ensures c.from-3.ensures c.from-5.ensures c.from-4.ensures refl).1 in
    let v = c.self.invariant in
    record {
      sum = rw (← c.from-4.ensures, ← c.self.view_is) h.sum;
      left = rw (← c.self.view_is) h.short;
      room = rw (← c.from-4.ensures) (rough_room c.self.inside.inverse c.args.num c.from-4.result c.requires (inverse_room g.row.F c.self.inside.den c.self.inside.inverse v.least v.inverse_is) (c.from-4.ensures ∙ ap₂ (λ p q. p * q / 2 ^ 62) c.from.ensures c.from-2.ensures));
      valid = rw (← c.self.view_is) (v.least, v.most);
    }
