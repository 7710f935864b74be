pub mod Sessions
pub mod Settling
pub mod Answers
pub mod Following
