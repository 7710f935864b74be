pub mod Coarse
pub mod Moments
pub mod Parts
pub mod SumBounds
pub mod Reaches
pub mod Starts
pub mod Falls
