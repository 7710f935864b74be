-- The lemmas of this crate that crates above may cite, by the files that prove them.
pub use Rattle.held_work.proofs.Kept.{all_points, all_work, box_few, box_ordered, few_tables}
