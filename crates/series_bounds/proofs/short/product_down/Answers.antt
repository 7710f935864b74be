use Rattle.std.proofs.Common.{◌*◌, ◌/◌, ◌^◌, ap₂}
use Rattle.series_bounds.proofs.short.product_down.Goals as goal

pub overflow_cast-result-2 : goal.overflow_cast-result-2
overflow_cast-result-2 g c = record { fits = rw (c.from.ensures, c.from-2.ensures) c.requires.room }

pub returns : goal.returns
returns g c = ap₂ (λ y z. y * z / 2 ^ g.row.F) c.from.ensures c.from-2.ensures
