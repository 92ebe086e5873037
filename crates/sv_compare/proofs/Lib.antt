pub mod HasFindings
pub mod JoinedFindings
pub mod OneDesign
pub mod PairExamples
pub mod ReadPairs
pub mod SameFindings
pub mod TextFindings
pub mod ToldSignals
