pub mod Simulations
pub mod Settling
