use Rattle.std.proofs.Common.{get_or, subst, sym}
use Rattle.quotients.proofs.Products.{IsInverse, entry_is}
use Rattle.quotients.proofs.entry.Goals as goal

pub returns : goal.returns
returns c =
    let i : IsInverse c.args.x (get_or c.args.table.now c.from.result 0) =
    subst (λ z. IsInverse c.args.x (get_or c.args.table.now z 0)) (sym c.from.ensures) (entry_is c.args.table.now c.args.x c.requires.table c.requires.divisor c.ranges.x.fits) in
    record { least = i.least; most = i.most }
