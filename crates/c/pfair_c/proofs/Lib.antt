mod Common
mod SlotRows
mod TakingFacts
