pub mod Checking
pub mod Certificate
pub mod FaultLines
pub mod Lines
pub mod Reading
