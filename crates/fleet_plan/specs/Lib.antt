pub mod Families
pub mod Plans
pub mod Laws
