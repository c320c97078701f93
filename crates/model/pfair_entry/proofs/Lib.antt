mod Notes
pub mod Refusals
