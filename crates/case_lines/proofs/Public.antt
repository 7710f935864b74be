-- The lemmas of this crate that crates above may cite, by the files that prove them.
pub use Rattle.case_lines.proofs.Choices.{first_there, neither, second_there}
pub use Rattle.case_lines.proofs.Exact.{number_field}
pub use Rattle.case_lines.proofs.Few.{case_few_parts, case_sites, few_pairs}
pub use Rattle.case_lines.proofs.Framed.{are_part_rows}
pub use Rattle.case_lines.proofs.Rows.{fits_at}
pub use Rattle.case_lines.proofs.Shape.{case_is_exact}
pub use Rattle.case_lines.proofs.Taken.{gathers_next}
pub use Rattle.case_lines.proofs.Valid.{case_fits, in_range_holds, range_parts}
