-- The lemmas of this crate that crates above may cite, by the files that prove them.
pub use Rattle.depot_pipeline.proofs.Laws.{added_in, mean_part_in, part_most, variance_part_in}
pub use Rattle.depot_pipeline.proofs.Walk.{Summed, at_the_end, capped_is, summed_next, summed_start}
