-- The lemmas of this crate that crates above may cite, by the files that prove them.
pub use Rattle.hull.proofs.Chains.{Flatter, chain_is_curve, cost_from_head, head_least}
pub use Rattle.hull.proofs.Joined.{chain_suffix}
pub use Rattle.hull.proofs.Mapped.{Origin, origin_of}
pub use Rattle.hull.proofs.Members.{Flattened, Mapped, among_flat, among_flattened, among_map, among_mapped, in_range, range_has}
pub use Rattle.hull.proofs.Prices.{DeepVertex, Leads, LowVertex, deep_vertex, low_vertex}
pub use Rattle.hull.proofs.Runs.{CostsRise, among_at, among_permuted, among_read, curve_made, permuted_stands}
pub use Rattle.hull.proofs.Shapes.{begins_cheapest, convex, cost_of_head, cost_of_last, first_both, of_members, one_curve}
pub use Rattle.hull.proofs.Stand.{among_either, among_left, among_right, curve_stands, first_self, first_trans, same_lagrangian, same_self, same_sym, same_trans, stand_for, stand_for_both, vertex_at_place, vertex_of_part}
pub use Rattle.hull.proofs.StepsOf.{chain_front, chain_prefix, drop_beaten, drop_straight, push_on, push_second, refuse, stand_same, stand_self, stand_trans, steps_last}
pub use Rattle.hull.proofs.Stops.{least_at_stop, least_of_all}
pub use Rattle.hull.proofs.Sums.{Parts, first_at, first_joined, parts_of, second_at, stand_for_sums, sum_among}
