pub mod DeclarationRuns
pub mod ReadingDeclarations
pub mod ReadingInstances
pub mod ReadingItems
pub mod ReadingMaps
pub mod ReadingSymbols
pub mod WholeTexts
