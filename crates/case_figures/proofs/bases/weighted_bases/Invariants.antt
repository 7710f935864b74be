use Rattle.std.proofs.Common.{◌≡◌, ◌-◌, map}
use Rattle.std.specs.Prelude.{All}
use Rattle.std.specs.List.{range_with_len}
use Rattle.availability.specs.Exact.{IsWeighted}
use Rattle.case_figures.specs.Gathering.{weighted_from}
use Rattle.case_figures.proofs.bases.weighted_bases.Given as goal

abbrev pub invariant-loop-k : goal.invariant-loop-k
invariant-loop-k g l = record {
  bases : l.bases.items ≡ map (weighted_from g.row.F l.case l.families) (range_with_len 1 (l.k - 1));
  weighted : All (IsWeighted g.row.F) l.bases.items;
}
