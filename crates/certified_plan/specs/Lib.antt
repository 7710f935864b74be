pub mod Inputs
pub mod Certificates
pub mod Laws
pub mod Accepted
