pub mod Public
pub mod Ranges
pub mod Units
pub mod Enclosed
pub mod Items
pub mod Families
pub mod Shifted
