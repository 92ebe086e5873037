pub mod Decisions
pub mod Simulating
