-- Signals by their numbers.
pub use Rattle.sv_graph.specs.Numbers.{numbers, number_if_any}
