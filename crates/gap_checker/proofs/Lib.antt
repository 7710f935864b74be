pub mod Leasts
pub mod Lowering
pub mod Uppers
