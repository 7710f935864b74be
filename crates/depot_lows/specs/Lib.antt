pub mod Rough
