pub mod Comparisons
pub mod Forms
pub mod Sights
