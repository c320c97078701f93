mod Common
pub mod Following
mod NotedLemmas
mod Peeks
