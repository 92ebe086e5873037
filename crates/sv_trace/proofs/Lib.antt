pub mod Values
pub mod Splitting
pub mod CycleWords
pub mod Texts
pub mod SaidFacts
pub mod PieceFacts
pub mod Stuck
pub mod ReaderFacts
pub mod FormFacts
pub mod Shown
mod StimulusExamples
mod TraceExamples
pub mod StimFacts
