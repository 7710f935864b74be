pub mod Known
pub mod Widening
