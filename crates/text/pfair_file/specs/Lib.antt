pub mod Documents
pub mod Keys
pub mod ProgramFaults
pub mod Tables
