-- The lemmas of this crate that crates above may cite, by the files that prove them.
pub use Rattle.family_points.proofs.AllBases.{base_read, bases_long}
pub use Rattle.family_points.proofs.Bounded.{at_limit, at_long, box_at, box_of, low_long, stock_small}
pub use Rattle.family_points.proofs.Counting.{first_units, work_more}
pub use Rattle.family_points.proofs.Depend.{scored_same}
pub use Rattle.family_points.proofs.Distinct.{family_stocks_in}
pub use Rattle.family_points.proofs.LeastPoints.{base_added, base_least_is, box_some, choice_all, choice_first, choice_more, decides_all, depot_begins, shops_all, shops_below, shops_more, stock_below, stock_more, turned_among}
pub use Rattle.family_points.proofs.Leasts.{at_least_less, at_least_sums, decided, decides_least, decides_true, least_most}
pub use Rattle.family_points.proofs.Local.{changed, line_owner, local}
pub use Rattle.family_points.proofs.Numbers.{product_some, vectors_count, width_at, widths_long}
pub use Rattle.family_points.proofs.Ordered.{choice_at, choice_range, earlier_cheaper, earlier_wide, order_count, ordered_stands, points_permuted, points_to, stands_on}
pub use Rattle.family_points.proofs.Points.{all_depots, base_small, begins_at_none, box_begins, depot_points_small, each_between, first_vector, flat_stock_before, flat_stock_behind, high_begins, joined_at, limits_hold, low_begins, low_some, mapped_among, nothing_above, of_each, over_count, over_count_more, over_more, over_small, room_at, small_range, some_vectors, stocks_between, stocks_count, turned_curve, whole_room}
pub use Rattle.family_points.proofs.Rooms.{held_ordered}
pub use Rattle.family_points.proofs.Scores.{backorders_small}
pub use Rattle.family_points.proofs.Separate.{at_base, separated_is}
pub use Rattle.family_points.proofs.Shops.{all_below, box_shops, read_place, shops_low_long}
pub use Rattle.family_points.proofs.Sites.{all_joined, members, part_long, size}
pub use Rattle.family_points.proofs.Spotted.{line_cost, line_cost_most, line_cost_small, line_dearer, stock_read}
pub use Rattle.family_points.proofs.Stands.{vector_stands}
pub use Rattle.family_points.proofs.TableFacts.{part_some, part_widths}
pub use Rattle.family_points.proofs.Turns.{turn_lists}
pub use Rattle.family_points.proofs.Whole.{box_of_nothing, tables_whole, whole_ordered}
