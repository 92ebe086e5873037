pub mod Earliest
pub mod Modules
pub mod MapParts
pub mod Nests
pub mod Instances
pub mod Texts
