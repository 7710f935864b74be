pub mod RoughFacts
pub mod Nearer
