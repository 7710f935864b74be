use Rattle.std.proofs.Common.{◌+◌, ◌-◌, ◌*◌, ◌/◌, ◌^◌, ◌∙◌, ap₂, pow_pos}
use Rattle.list_laws.proofs.Public.{ceil_by_sum}
use Rattle.series_bounds.proofs.short.product_up.Goals as goal

pub overflow_cast-result-2 : goal.overflow_cast-result-2
overflow_cast-result-2 g c =
    let e = ap₂ (λ y z. (y + (z - 1)) / 2 ^ g.row.F) (ap₂ (λ y z. y * z) c.from.ensures c.from-2.ensures) c.unit.ensures
    ∙ ceil_by_sum (c.args.a * c.args.b) (2 ^ g.row.F) (pow_pos g.row.F) in
    record { fits = rw e c.requires.room }

pub returns : goal.returns
returns g c =
    ap₂ (λ y z. (y + (z - 1)) / 2 ^ g.row.F) (ap₂ (λ y z. y * z) c.from.ensures c.from-2.ensures) c.unit.ensures
    ∙ ceil_by_sum (c.args.a * c.args.b) (2 ^ g.row.F) (pow_pos g.row.F)
