pub mod Public
pub mod LineFacts
