-- The lemmas of this crate that crates above may cite, by the files that prove them.
pub use Rattle.case_figures.proofs.Covering.{item_pair, pair_within}
pub use Rattle.case_figures.proofs.Enclosing.{sum_in, total_at_in}
pub use Rattle.case_figures.proofs.Limits.{sum_most}
pub use Rattle.case_figures.proofs.Shown.{can_evaluate, evaluated_as, figures_fit, figures_shown}
