mod Alike
mod Common
mod Filling
mod Keeping
pub mod NextRuns
mod PlacesKept
pub mod QueueKept
mod ReadOn
pub mod Runs
pub mod RunsOn
pub mod Scripts
pub mod TableLaws
