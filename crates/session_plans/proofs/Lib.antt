pub mod Places
pub mod Evaluations
pub mod Families
pub mod Keeping
pub mod Later
pub mod Settled
pub mod Reported
pub mod Followed
