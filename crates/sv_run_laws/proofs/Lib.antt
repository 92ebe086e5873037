pub mod LatticesAsked
mod LinkedNumbers
mod SourceLattices
pub mod MapsAsked
pub mod CheckedDesigns
pub mod FineTokens
pub mod FineForms
pub mod FineStatements
pub mod FineTexts
pub mod TextLaws
pub mod CarriedTraces
pub mod SameSimulations
pub mod TextNames
pub mod TextSimulations
pub mod TextTopClocks
pub mod FalsifiedTexts
mod OwnRounds
pub mod ListedValues
mod SystemLabels
mod TypedSizes
mod SizeExamples
mod PlainSignals
mod DeclaredSignals
mod DeclaredMaps
mod SignalExamples
