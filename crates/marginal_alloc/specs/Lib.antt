pub mod Choice
pub mod Filling
pub mod Changes
pub mod Fillings
pub mod Laws
pub mod Plans
pub mod Promises
pub mod Soundness
