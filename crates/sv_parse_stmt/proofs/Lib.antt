pub mod ArmRuns
pub mod AssignmentRuns
pub mod ReadingAssignments
pub mod ReadingStatements
pub mod StatementRuns
pub mod SymbolsAlike
