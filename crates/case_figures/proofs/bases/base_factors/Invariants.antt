use Rattle.std.proofs.Common.{◌≡◌, ◌≤◌, ◌^◌, map, take}
use Rattle.std.specs.Prelude.{All}
use Rattle.fixed_interval.specs.Ends.{Ends}
use Rattle.case_figures.specs.Gathering.{factor_from}
use Rattle.case_figures.proofs.bases.base_factors.Given as goal

abbrev pub invariant-loop-family : goal.invariant-loop-family
invariant-loop-family g l = record {
  factors : l.factors.items ≡ map (factor_from g.row.F l.case l.base.0) (take l.family-index l.families);
  most : All (λ (x : Ends). x.hi ≤ 2 ^ g.row.F) l.factors.items;
}
