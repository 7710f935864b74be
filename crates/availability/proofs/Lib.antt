pub mod Public
pub mod Laws
