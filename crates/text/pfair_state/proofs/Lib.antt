mod Common
mod MembersRead
mod OneText
pub mod RowLists
mod RowsSpelled
mod Spelled
mod StateRead
