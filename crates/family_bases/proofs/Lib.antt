pub mod Public
pub mod LowPoints
pub mod Moved
pub mod OneMore
pub mod DepotPoints
pub mod Vertices
