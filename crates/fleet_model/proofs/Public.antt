-- The lemmas of this crate that crates above may cite, by the files that prove them.
pub use Rattle.fleet_model.proofs.AllocationLaws.{allocation_reaches, cost_holds, limit_most, stock_holds, stocks_allocation}
pub use Rattle.fleet_model.proofs.CapLaws.{capped_00, capped_0j, capped_i0, capped_ij}
pub use Rattle.fleet_model.proofs.DependLaws.{family_aim_same, has_sites}
pub use Rattle.fleet_model.proofs.DivisorLaws.{all_systems_positive, per_system_positive, systems_positive}
pub use Rattle.fleet_model.proofs.FamilyLaws.{HasFamilies, HasLine, cost_beyond_families, cost_families}
pub use Rattle.fleet_model.proofs.FrameLaws.{few_lines, has_families, same_part}
pub use Rattle.fleet_model.proofs.MeanLaws.{mean_00, mean_0j, mean_ij}
pub use Rattle.fleet_model.proofs.Order.{le_add, le_mul, le_of_same, times_one}
pub use Rattle.fleet_model.proofs.SumLaws.{sum_most, sum_places, sum_range}
pub use Rattle.fleet_model.proofs.UnitLaws.{share_units, units_of_demand, units_of_direct, units_of_zero_stock}
pub use Rattle.fleet_model.proofs.WordLaws.{plain_words}
