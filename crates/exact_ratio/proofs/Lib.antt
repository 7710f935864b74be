pub mod Reading
pub mod Answer
mod Rows
