pub mod Carrying
pub mod DesignForms
pub mod FalsifyExamples
pub mod MeaningExamples
pub mod SizeExamples
pub mod WorkedExamples
