mod BusyBounds
mod Cascades
mod Common
pub mod Counting
mod Halves
mod Holes
pub mod Past
mod Reasons
mod Shares
