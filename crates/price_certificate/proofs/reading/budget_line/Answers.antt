use Rattle.std.proofs.Common.{◌^◌, refl, lit≤, lit<}
use Rattle.price_certificate.proofs.Counts.{count_below}
use Rattle.price_certificate.proofs.reading.budget_line.Goals as goal
use lib.Chars.{codes}

pub overflow_cast-result : goal.overflow_cast-result
overflow_cast-result c =
    record { fits = count_below (codes "budget") 0 (10 ^ 15) (2 ^ 64) c.in_ok-budget.budget c.args.lines.now c.count_line.new.lines refl (lit≤ tt) (lit< tt) (lit< tt) (rw c.from.ensures at c.in_ok-budget.ensures) }

pub returns : goal.returns
returns c = rw c.from.ensures at c.in_ok-budget.ensures
