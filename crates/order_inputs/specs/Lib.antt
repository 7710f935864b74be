pub mod Cases
pub mod Files
pub mod Given
pub mod Reading
