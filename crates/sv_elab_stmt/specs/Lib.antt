pub mod Targets
pub mod Cases
pub mod Chains
