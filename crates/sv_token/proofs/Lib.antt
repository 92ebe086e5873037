pub mod Agreement
mod Computed
pub mod FrontLaws
pub mod GapLaws
pub mod LexLaws
pub mod NumeralLaws
pub mod SignLaws
pub mod WithinLaws
pub mod WordLaws
mod NumberExamples
mod SignExamples
mod SpanExamples
mod TextExamples
mod WordExamples
mod LineLaws
