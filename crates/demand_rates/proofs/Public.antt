-- The lemmas of this crate that crates above may cite, by the files that prove them.
pub use Rattle.demand_rates.proofs.DepotFacts.{no_line_there}
pub use Rattle.demand_rates.proofs.RateFacts.{rates_model}
pub use Rattle.demand_rates.proofs.WaitFacts.{line_of_none, other_shop}
