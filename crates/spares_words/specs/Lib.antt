pub mod Arguments
pub mod Commands
pub mod Laws
pub mod Order
