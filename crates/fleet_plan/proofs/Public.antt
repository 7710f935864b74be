-- The lemmas of this crate that crates above may cite, by the files that prove them.
pub use Rattle.fleet_plan.proofs.Bridge.{claims_true, families_enclosed, from_points, held_of, hi_same, none_less, of_stocks, plan_true, points_are, same_choice, same_cost, same_total, vector_between}
pub use Rattle.fleet_plan.proofs.Costs.{families_beyond}
pub use Rattle.fleet_plan.proofs.Lists.{is_among, is_between, map_among}
pub use Rattle.fleet_plan.proofs.Ones.{chosen_in, chosen_of_stocks, one_case_plan}
pub use Rattle.fleet_plan.proofs.Places.{IsApart, agree_on, apart_at, at_among, family_apart, in_case, kept, length_part, length_places, length_vector, line_among, lines_apart, lines_are, one_family, place_has, vector_by, zip_each}
pub use Rattle.fleet_plan.proofs.Plain.{plain_encloses, plain_plan, plain_room, upper_is_total}
pub use Rattle.fleet_plan.proofs.Scores.{point_range, scored_encloses, scored_total_same, stocks_tell_all}
