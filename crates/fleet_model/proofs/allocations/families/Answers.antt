use Rattle.fleet_model.proofs.DependLaws.{family_aim_same, family_cost_beyond_same, has_sites}
use Rattle.fleet_model.proofs.FamilyLaws.{cost_beyond_families}
use Rattle.fleet_model.proofs.FrameLaws.{has_families}
use Rattle.fleet_model.proofs.allocations.families.Goals as goal

pub returns : goal.returns
returns c = record {
  cost = λ d held s h. cost_beyond_families d held s (has_families d h);
  alone = λ value d held s t n l valid h. (family_aim_same d s t (has_sites d valid) value n l h, family_cost_beyond_same d s t (has_sites d valid) held l h);
}
