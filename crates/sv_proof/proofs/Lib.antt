pub mod Numbers
pub mod Chains
pub mod Digits
pub mod Splitting
pub mod Spelling
pub mod Following
pub mod Breaking
pub mod Beginning
pub mod Again
pub mod Writing
pub mod LinePlaces
pub mod DerivedSteps
mod FaultLineExamples
