use Rattle.std.proofs.Common.{◌≡◌, ◌-◌, map}
use Rattle.std.specs.List.{range_with_len}
use Rattle.case_figures.specs.Gathering.{base_line_from}
use Rattle.case_figures.proofs.bases.base_lines.Given as goal

abbrev pub invariant-loop-k : goal.invariant-loop-k
invariant-loop-k g l = l.lines.items ≡ map (base_line_from g.row.F l.case l.weighted) (range_with_len 1 (l.k - 1))
