pub mod Added
pub mod Examples
pub mod Given
pub mod Numbers
pub mod Reading
