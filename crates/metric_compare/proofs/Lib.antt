pub mod Enclosed
pub mod Pipes
pub mod Adding
pub mod Shown
