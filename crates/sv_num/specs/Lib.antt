pub mod BinaryValues
pub mod Faults
pub mod OperatorTables
pub mod Parts
pub mod Rules
pub mod UnaryValues
pub mod Vectors
