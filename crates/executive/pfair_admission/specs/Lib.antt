pub mod Admission
pub mod Carried
pub mod Incarnation
pub mod Laws
pub mod Ledger
pub mod Member
