use Rattle.std.proofs.Common.{◌≡◌, take}
use Rattle.spares_input.specs.Frames.{site_names}
use Rattle.case_figures.proofs.items.site_names.Given as goal

abbrev pub invariant-loop-k : goal.invariant-loop-k
invariant-loop-k l = l.names.items ≡ site_names (take l.k l.case.sites)
