pub mod Events
pub mod NextRun
pub mod Places
pub mod Planned
pub mod Planning
pub mod Refinement
pub mod Script
pub mod Table
