pub mod Desks
pub mod Noted
pub mod Steps
