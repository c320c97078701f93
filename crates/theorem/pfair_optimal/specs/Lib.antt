pub mod Laws
pub mod Schedule
