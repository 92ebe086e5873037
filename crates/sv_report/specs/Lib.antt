pub mod Text
pub mod FlowText
pub mod JsonTexts
pub mod Styles
pub mod Verdicts
pub mod JsonVerdicts
