pub mod Given
pub mod Histories
pub mod Repeating
pub mod Rising
pub mod Walks
pub mod Writing
