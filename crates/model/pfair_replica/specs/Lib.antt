pub mod BySlot
pub mod Counters
pub mod Faults
pub mod Laws
pub mod Replica
