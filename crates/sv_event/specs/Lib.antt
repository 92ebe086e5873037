pub mod Events
pub mod Places
pub mod Rests
pub mod Seen
