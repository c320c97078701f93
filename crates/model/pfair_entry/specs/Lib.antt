pub mod Entry
pub mod Kinds
pub mod Notice
pub mod Writer
