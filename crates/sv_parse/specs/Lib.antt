pub mod Reading
pub mod ReadingDeclarations
pub mod ReadingItems
pub mod Faults
pub mod ReadingTexts
