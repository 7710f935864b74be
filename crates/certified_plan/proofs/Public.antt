-- The lemmas of this crate that crates above may cite, by the files that prove them.
pub use Rattle.certified_plan.proofs.Accepted.{accepted}
pub use Rattle.certified_plan.proofs.Believed.{accepted_true, plain_true}
pub use Rattle.certified_plan.proofs.Formed.{well_formed}
pub use Rattle.certified_plan.proofs.Nearest.{nearest}
pub use Rattle.certified_plan.proofs.Scores.{scores_enclose, scores_leave_room}
pub use Rattle.certified_plan.proofs.Short.{held_short, text_short}
pub use Rattle.certified_plan.proofs.Zeros.{none_is_held}
