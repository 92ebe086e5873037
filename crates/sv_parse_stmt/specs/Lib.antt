pub mod ReadingArms
pub mod ReadingAssignments
