mod Common
mod Lengths
pub mod Refused
pub mod RowFields
