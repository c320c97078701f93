pub mod Book
pub mod Lag
