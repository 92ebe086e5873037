pub mod Sizes
pub mod Signals
pub mod LabelRows
pub mod SourceLattices
pub mod SimulatedTexts
pub mod TextRounds
pub mod FalsifiedTexts
