pub mod QueryFacts
