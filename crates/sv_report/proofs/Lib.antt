pub mod FrameFacts
pub mod LabelFacts
pub mod StayFacts
pub mod FlowTextFacts
pub mod OneText
pub mod JsonFacts
pub mod JsonExamples
