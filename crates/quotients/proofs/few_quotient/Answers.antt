use Rattle.std.proofs.Common.{◌∙◌}
use Rattle.quotients.proofs.Products.{quotient_is}
use Rattle.quotients.proofs.few_quotient.Goals as goal

pub returns : goal.returns
returns c =
    c.product_with.ensures
    ∙ quotient_is c.args.num c.args.den c.short_inverse.result c.requires.divisor c.requires.few c.ranges.den.fits c.short_inverse.ensures.least c.short_inverse.ensures.most
