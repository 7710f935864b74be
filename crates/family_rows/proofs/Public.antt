-- The lemmas of this crate that crates above may cite, by the files that prove them.
pub use Rattle.family_rows.proofs.Rows.{part_read, rows_taken}
pub use Rattle.family_rows.proofs.Tabled.{shop_stocks, tables_at}
