pub mod Beside
pub mod Boundaries
pub mod Carrying
mod Common
pub mod Deciding
pub mod MemberLists
pub mod Registers
pub mod Restoring
