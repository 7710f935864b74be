use Rattle.std.proofs.Common.{◌+◌, ◌-◌, ◌*◌, ◌/◌, ◌^◌, arith, refl, pow_pos}
use Rattle.backorder_bounds.proofs.Falls.{chance_fits, fallen_next, fallen_none, flat_next, flat_none}
use Rattle.backorder_bounds.proofs.falling.Falling.next.Goals as goal

pub overflow_cast-chance-2 : goal.overflow_cast-chance-2
overflow_cast-chance-2 g c = record {
  fits = omega (arith, chance_fits g.row.F c.from.result c.from-2.result c.requires.most (omega (arith, c.from.ensures, c.requires.small.weight)) (omega (arith, c.from-2.ensures, c.requires.lead.inverse)));
}

pub returns-clause-fallen : goal.returns-clause-fallen
returns-clause-fallen g c m v fl h n =
    fallen_next g.row.F m v c.args.lead c.args.s c.args.self (c.from.result * c.from-2.result / 2 ^ (72 - g.row.F)) c.few_quotient-ratio.result
    c.saturating_sub-tail.result c.min.result c.saturating_sub.result (c.args.self.above + c.args.lead.under.step)
    (omega (arith, c.requires.stock)) fl c.requires.most (omega (arith, c.if-self-eq0.false)) h n (rw c.from.ensures (rw c.from-2.ensures refl)) c.few_quotient-ratio.ensures c.saturating_sub-tail.ensures
    (omega (arith, c.min.ensures, c.product.ensures)) c.saturating_sub.ensures refl

pub returns-then-self-eq0-clause-fallen : goal.returns-then-self-eq0-clause-fallen
returns-then-self-eq0-clause-fallen g c m v fl h n = fallen_none g.row.F m v c.args.lead (c.args.s + 1) c.args.self c.if-self-eq0.true

pub returns-clause-flat : goal.returns-clause-flat
returns-clause-flat g c m n =
    flat_next g.row.F m c.args.lead c.args.s c.args.self (c.from.result * c.from-2.result / 2 ^ (72 - g.row.F)) (2 ^ (72 - g.row.F)) c.saturating_sub-tail.result c.min.result
    c.saturating_sub.result (c.args.self.above + c.args.lead.under.step) (pow_pos (72 - g.row.F)) n (rw c.from.ensures (rw c.from-2.ensures refl)) c.saturating_sub-tail.ensures c.saturating_sub.ensures

pub returns-then-self-eq0-clause-flat : goal.returns-then-self-eq0-clause-flat
returns-then-self-eq0-clause-flat g c m n = flat_none g.row.F m c.args.lead c.args.s c.args.self c.if-self-eq0.true n
