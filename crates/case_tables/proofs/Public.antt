-- The lemmas of this crate that crates above may cite, by the files that prove them.
pub use Rattle.case_tables.proofs.Refuse.{Refuses, accepted_refuses, is_of_task, or_refuses, stocked_refuses, tables_refuse, then_refuses}
