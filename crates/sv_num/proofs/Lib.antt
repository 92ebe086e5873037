pub mod BinaryRows
pub mod BitsLemmas
pub mod NumberLemmas
pub mod UnaryRows
