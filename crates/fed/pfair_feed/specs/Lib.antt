pub mod Feeding
pub mod Follow
pub mod Laws
