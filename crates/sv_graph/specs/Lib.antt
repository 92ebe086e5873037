pub mod Numbers
pub mod Graphs
pub mod Searches
pub mod Nests
pub mod Marks
pub mod Queues
pub mod BitSets
pub mod BitGraphs
