use Rattle.std.proofs.Common.{arith}
use Rattle.marginal_alloc.proofs.Walking.{free_firsts}
use Rattle.marginal_alloc.proofs.allocation.allocate_near.Goals as goal

pub allocate_within-requires-clause-firsts : goal.allocate_within-requires-clause-firsts
allocate_within-requires-clause-firsts c = let e = free_firsts c.args.curves.now c.requires.free in omega (arith, e)
