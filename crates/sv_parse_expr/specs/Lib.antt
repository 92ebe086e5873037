pub mod Faults
pub mod Expectations
pub mod Parses
pub mod Reading
