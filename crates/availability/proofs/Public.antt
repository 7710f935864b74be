-- The lemmas of this crate that crates above may cite, by the files that prove them.
pub use Rattle.availability.proofs.Laws.{factor_in, fleet_in, product_most}
