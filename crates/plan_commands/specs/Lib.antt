pub mod Planning
pub mod Summaries
