pub mod Answers
pub mod Certified
pub mod Progress
pub mod Verdicts
pub mod Verifying
pub mod Walking
pub mod Writable
