pub mod TargetFacts
pub mod CaseFacts
pub mod ChainFacts
pub mod CompleteFacts
pub mod ItemFacts
pub mod WalkFacts
pub mod CaseWalks
