use Rattle.std.proofs.Common.{arith}
use Rattle.test_cases.proofs.Ordered.{zip_from}
use Rattle.test_cases.proofs.curves.is_at_most.Goals as goal

pub returns : goal.returns
returns c = λ t. zip_from c.args.low.now c.args.high.now (omega arith) (λ k l. c.loop-i.invariant k (omega (arith, l)))
