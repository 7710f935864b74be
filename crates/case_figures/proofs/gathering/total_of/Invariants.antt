use Rattle.std.proofs.Common.{◌≡◌, ◌≤◌, ◌*◌, ◌^◌, map, take}
use Rattle.std.specs.List.{fold}
use Rattle.fixed_interval.specs.Ends.{ends_add, ends_exact}
use Rattle.case_figures.proofs.gathering.total_of.Given as goal

abbrev pub invariant-loop-family : goal.invariant-loop-family
invariant-loop-family g l = record {
  total : l.total ≡ fold ends_add (ends_exact g.row.F 0) (map (λ r. r.total) (take l.family-index l.families));
  most : l.total.hi ≤ l.family-index * (384000 * 2 ^ g.row.F);
}
