mod Common
mod FirstTorn
mod Following
pub mod Marks
pub mod Merging
pub mod SaidListed
pub mod TornKeys
