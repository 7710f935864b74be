use Rattle.std.proofs.Common.{◌≡◌}
use Rattle.series_bounds.specs.Profile.{listed}
use Rattle.moment_table.specs.Stored.{bare_row}
use Rattle.moment_table.proofs.backorders.bare.Given as goal

abbrev pub invariant-loop-s : goal.invariant-loop-s
invariant-loop-s g l = l.found.items ≡ listed (λ s. (bare_row g.row.F l.fn.mean l.fn.variance s).ebo) l.s
