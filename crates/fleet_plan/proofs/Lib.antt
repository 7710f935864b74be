pub mod Public
pub mod Lists
pub mod Places
pub mod Costs
pub mod Scores
pub mod Bridge
pub mod Plain
pub mod Ones
