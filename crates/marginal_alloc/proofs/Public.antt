-- The lemmas of this crate that crates above may cite, by the files that prove them.
pub use Rattle.marginal_alloc.proofs.Along.{costs_up}
pub use Rattle.marginal_alloc.proofs.Best.{changed_cost}
pub use Rattle.marginal_alloc.proofs.Bounds.{Around, all_least, all_picked, around, choice_least}
pub use Rattle.marginal_alloc.proofs.Filled.{changed_vertices, hi_falls}
pub use Rattle.marginal_alloc.proofs.Kept.{plan_acceptable}
pub use Rattle.marginal_alloc.proofs.Least.{critical_stops}
pub use Rattle.marginal_alloc.proofs.One.{choices_are_one, not_crossed}
pub use Rattle.marginal_alloc.proofs.OnePlan.{one_plan}
pub use Rattle.marginal_alloc.proofs.Sound.{plan_sound}
pub use Rattle.marginal_alloc.proofs.Told.{told}
