pub mod Answers
pub mod Entries
pub mod Rows
pub mod RowsGiven
pub mod State
pub mod Taking
