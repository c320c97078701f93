pub mod BookedFacts
mod Common
pub mod SlotFacts
pub mod WorldFacts
