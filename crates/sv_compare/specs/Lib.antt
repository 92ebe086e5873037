pub mod ComparedTexts
pub mod Pairs
