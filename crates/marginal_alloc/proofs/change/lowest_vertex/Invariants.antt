use Rattle.marginal_alloc.specs.Changes.{IsLowest}
use Rattle.marginal_alloc.proofs.change.lowest_vertex.Given as goal

abbrev pub invariant-loop-k : goal.invariant-loop-k
invariant-loop-k l = IsLowest l.curve l.pick l.room l.k l.lowest
