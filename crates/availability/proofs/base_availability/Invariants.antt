use Rattle.std.proofs.Common.{◌≡◌, ◌≤◌, ◌^◌, take}
use Rattle.availability.specs.Profile.{base_ends}
use Rattle.availability.proofs.base_availability.Given as goal

abbrev pub invariant-loop-factor : goal.invariant-loop-factor
invariant-loop-factor g l = record {
  product : l.product ≡ base_ends g.row.F (take l.factor-index l.factors);
  most : l.product.hi ≤ 2 ^ g.row.F;
}
