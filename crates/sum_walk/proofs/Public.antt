-- The lemmas of this crate that crates above may cite, by the files that prove them.
pub use Rattle.sum_walk.proofs.Parts.{sums_one_more}
