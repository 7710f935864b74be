pub mod Demonstrated
pub mod Grounds
pub mod Planned
pub mod Swept
pub mod Told
