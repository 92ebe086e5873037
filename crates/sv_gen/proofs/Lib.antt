pub mod SampleFacts
pub mod SampleLength
pub mod SampleExamples
