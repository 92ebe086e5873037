pub mod Halting
pub mod ReadingExpressions
pub mod ReadingLists
pub mod ReadingOperators
pub mod ReadingRuns
