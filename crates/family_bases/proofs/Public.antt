-- The lemmas of this crate that crates above may cite, by the files that prove them.
pub use Rattle.family_bases.proofs.DepotPoints.{depot_ranges, depot_widths}
pub use Rattle.family_bases.proofs.LowPoints.{IsLowScore, base_under, base_under_more, beyond, depot_under, lagrangian_under, lower_under, score_at, score_under, shops_more}
pub use Rattle.family_bases.proofs.Moved.{moved}
pub use Rattle.family_bases.proofs.OneMore.{base_more, lengths_one_more}
pub use Rattle.family_bases.proofs.Vertices.{few_vertices}
