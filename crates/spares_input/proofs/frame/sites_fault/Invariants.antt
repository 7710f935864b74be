use Rattle.std.proofs.Common.{◌≡◌, None}
use Rattle.spares_input.specs.First.{first}
use Rattle.spares_input.specs.Frames.{site_fault}
use Rattle.spares_input.proofs.frame.sites_fault.Given as goal

abbrev pub invariant-loop-k : goal.invariant-loop-k
invariant-loop-k l = first (site_fault l.sites) l.k ≡ None
