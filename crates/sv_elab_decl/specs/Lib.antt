pub mod Sites
pub mod Ranges
pub mod Steps
pub mod Overridden
pub mod Selectors
