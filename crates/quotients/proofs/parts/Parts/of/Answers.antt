use Rattle.std.proofs.Common.{◌/◌, ap, arith}
use Rattle.quotients.proofs.Rounded.{quotient_room}
use Rattle.quotients.proofs.parts.Parts.of.Goals as goal

pub overflow_cast-result : goal.overflow_cast-result
overflow_cast-result c = record { fits = omega (arith, quotient_room c.args.num c.args.den _ c.requires.divisor c.requires.room (ap (λ z. c.args.num / z) c.from.ensures)) }
