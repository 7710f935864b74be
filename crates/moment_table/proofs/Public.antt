-- The lemmas of this crate that crates above may cite, by the files that prove them.
pub use Rattle.moment_table.proofs.Enclosure.{excess_is, row_of_empty, row_of_known, row_of_wide}
pub use Rattle.moment_table.proofs.Most.{rows_below}
pub use Rattle.moment_table.proofs.Tables.{table_encloses}
