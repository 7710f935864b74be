pub mod Curves
pub mod Laws
pub mod Limits
pub mod Scores
pub mod Verdicts
