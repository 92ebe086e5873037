pub mod NormalLaws
mod Puts
pub mod Valuations
pub mod GateLaws
pub mod ExtendingLaws
pub mod Keeping
mod GateExamples
