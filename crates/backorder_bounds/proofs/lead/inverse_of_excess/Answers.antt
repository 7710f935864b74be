use Rattle.std.proofs.Common.{arith}
use Rattle.backorder_bounds.proofs.Moments.{inverse_is}
use Rattle.backorder_bounds.proofs.lead.inverse_of_excess.Goals as goal

pub returns-clause-inverse : goal.returns-clause-inverse
returns-clause-inverse c f m v l p o n cm cv =
    inverse_is f m v p o c.args.mean c.args.variance c.max-least.result c.max-most.result c.saturating_sub-low.result c.min-high.result l n cm cv c.requires.positive
    c.max-least.ensures c.max-most.ensures (omega (arith, c.saturating_sub-low.ensures, c.share.ensures)) (omega (arith, c.min-high.ensures, c.share-2.ensures))
    (omega (arith, c.if-high-low.false)) (omega (arith, c.if-low.false))
