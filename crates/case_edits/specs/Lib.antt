pub mod Lines
pub mod Edits
