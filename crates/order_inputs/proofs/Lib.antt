pub mod Public
pub mod Few
pub mod ReadInputs
pub mod Refuse
