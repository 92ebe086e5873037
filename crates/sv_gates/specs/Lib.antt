pub mod Formulas
pub mod NormalForms
pub mod Gates
pub mod Extending
