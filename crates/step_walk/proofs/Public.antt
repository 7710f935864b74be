-- The lemmas of this crate that crates above may cite, by the files that prove them.
pub use Rattle.step_walk.proofs.Going.{not_both, one_next}
pub use Rattle.step_walk.proofs.Greedy.{vertex_is}
pub use Rattle.step_walk.proofs.Taking.{before_is_steeper, cost_rises, left_falls, own_fall, own_rise, own_step, rises_at, steps_left, taken_prefix}
