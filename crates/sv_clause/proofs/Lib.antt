pub mod Standing
pub mod Truth
pub mod UnitLaws
pub mod Merging
pub mod Folding
pub mod SameClause
