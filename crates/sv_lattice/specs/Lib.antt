pub mod Flows
pub mod Labels
pub mod Maps
pub mod Tables
