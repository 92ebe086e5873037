pub mod System
pub mod Facts
pub mod Joining
pub mod Schedules
