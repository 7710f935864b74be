-- The lemmas of this crate that crates above may cite, by the files that prove them.
pub use Rattle.family_numbers.proofs.FromNumbers.{backorders_alone, base_shop_made, depot_line_made, depot_shop_made, shops_numbered}
pub use Rattle.family_numbers.proofs.Served.{base_shop_can, depot_feeds_small, depot_line_can, depot_shop_can, depot_shop_small, feed_is_small}
