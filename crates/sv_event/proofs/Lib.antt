pub mod CycleOrders
pub mod PlaceFacts
pub mod QuietFacts
pub mod RoundFacts
pub mod RunFacts
pub mod SeenFacts
pub mod TickFacts
