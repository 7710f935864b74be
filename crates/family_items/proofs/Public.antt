-- The lemmas of this crate that crates above may cite, by the files that prove them.
pub use Rattle.family_items.proofs.Enclosed.{direct_level, item_in, item_small, share_level, small_00, small_i0, sum_by_places}
pub use Rattle.family_items.proofs.Families.{evaluable, families_in, families_small, each_listed, family_in, family_small, line_in, line_listed, lines_count, listed_is_line, member_in_case, weight_most}
pub use Rattle.family_items.proofs.Items.{added_same, all_delays_small, base_line_is, base_line_item, base_shop_is, base_shop_item, by_ids, depot_feeds_small, depot_line_is, depot_line_item, depot_shop_is, depot_shop_item, family_is, feed_small, feeds_are, feeds_few, feeds_more, delays_are, delays_few, delays_more, ids_few, index_within, item_read, row_length, row_small, shop_of, times_most, total_is, total_room, total_term}
pub use Rattle.family_items.proofs.Ranges.{added_least, can_capped, can_table, cap_in, pair_in, pipeline_from_is, pipeline_is, rated, share_most, sound_of}
pub use Rattle.family_items.proofs.Units.{few_shops, line_at, shop_at, shops_all}
