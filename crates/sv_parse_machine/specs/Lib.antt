pub mod ExpressionTable
pub mod Machine
pub mod ModuleTable
pub mod Reads
pub mod StatementTable
pub mod Symbols
pub mod Verdict
