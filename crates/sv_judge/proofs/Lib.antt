pub mod Lists
pub mod WalkFacts
pub mod WritableFacts
pub mod ProgressFacts
pub mod EndedFacts
pub mod VerifyFacts
pub mod NeverSpent
