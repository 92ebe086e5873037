pub mod Traces
pub mod Simulated
pub mod Faults
pub mod Runs
pub mod Runners
pub mod Progress
pub mod Fronts
