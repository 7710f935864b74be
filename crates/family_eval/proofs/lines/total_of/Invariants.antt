use Rattle.std.proofs.Common.{◌+◌, ◌-◌, get_or}
use Rattle.fixed_interval.specs.Ends.{ends_exact, ends_times}
use Rattle.depot_pipeline.proofs.Public.{Summed}
use Rattle.family_items.specs.Encloses.{no_item}
use Rattle.family_eval.proofs.lines.total_of.Given as goal

abbrev pub invariant-loop-j : goal.invariant-loop-j
invariant-loop-j g l = Summed g.row.F 25600 (ends_exact g.row.F 0) (λ k. ends_times (get_or l.fn.items (k + 1) (no_item g.row.F)).backorders l.fn.weight) l.total (l.j - 1)
