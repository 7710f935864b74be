-- The lemmas of this crate that crates above may cite, by the files that prove them.
pub use Rattle.gap_rules.proofs.Acceptable.{accepted_are_acceptable, breaks_none, none_broken}
pub use Rattle.gap_rules.proofs.Adding.{few_places}
pub use Rattle.gap_rules.proofs.AmongLaws.{IsBetween, among_vectors, between}
pub use Rattle.gap_rules.proofs.Boxes.{at_most_at, at_most_chain, at_most_length, at_most_self, at_most_set_high, at_most_set_low, at_most_unset_high}
pub use Rattle.gap_rules.proofs.Costs.{added_is}
pub use Rattle.gap_rules.proofs.Counting.{advance}
pub use Rattle.gap_rules.proofs.Families.{box_ordered, count_lines, held_limited, line_is, line_read_at, own_low, own_tree, own_work, tree_at, work_at}
pub use Rattle.gap_rules.proofs.Formed.{few_nodes, has_cover, has_floors, lines_counted}
pub use Rattle.gap_rules.proofs.Judging.{are_kept, are_limited, are_trees, by_bound, by_covers, by_floors, by_none, by_rates, by_stocks, by_upper, few_tables}
pub use Rattle.gap_rules.proofs.Places.{place_pair, vector_limited, vectors_ordered}
pub use Rattle.gap_rules.proofs.Readings.{trees_are_read}
pub use Rattle.gap_rules.proofs.Trees.{IsCons, cons_of}
