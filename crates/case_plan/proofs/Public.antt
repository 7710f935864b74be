-- The lemmas of this crate that crates above may cite, by the files that prove them.
pub use Rattle.case_plan.proofs.CurveFacts.{are_curves, are_family_curves}
pub use Rattle.case_plan.proofs.Families.{line_fewer, line_place}
pub use Rattle.case_plan.proofs.Nothing.{from_nothing}
pub use Rattle.case_plan.proofs.PointsServe.{points_are_families, points_have_vectors}
pub use Rattle.case_plan.proofs.Ranges.{plan_fits}
pub use Rattle.case_plan.proofs.Sums.{part_all, part_more}
pub use Rattle.case_plan.proofs.Truths.{below_printed, plain_true, planned_true, report_fits}
