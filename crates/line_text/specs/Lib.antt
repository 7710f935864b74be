pub mod Formats
pub mod Texts
pub mod Files
pub mod Exact
pub mod Reading
pub mod Writing
