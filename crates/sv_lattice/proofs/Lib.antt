pub mod FlowLemmas
pub mod TableLemmas
pub mod BoundLemmas
pub mod SearchLemmas
pub mod OrderLemmas
pub mod MapLemmas
