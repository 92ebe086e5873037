pub mod Words
pub mod Operators
pub mod Circuits
pub mod BitGates
pub mod Moves
pub mod Rows
