-- The lemmas of this crate that crates above may cite, by the files that prove them.
pub use Rattle.price_bounds.proofs.Duality.{AreEnds, gap_within, lagrangian_of_all, least_together, no_fewer, no_price, no_price_at_end, swapped}
pub use Rattle.price_bounds.proofs.Floors.{claimed, exact_floors, least_floors}
pub use Rattle.price_bounds.proofs.Units.{at_least, at_most, bound_at_most, sum_contains}
pub use Rattle.price_bounds.proofs.Vectors.{allocation_cost, allocation_picks, allocation_values, certificate_sound, choice_allocation, choice_cost, choice_values, ends_of, none_fewer, own, points_at, total_is, values_at}
