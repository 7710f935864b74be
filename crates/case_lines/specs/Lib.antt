pub mod Grammar
pub mod Fields
pub mod Rates
pub mod Framed
