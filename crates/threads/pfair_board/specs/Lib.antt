pub mod Laws
pub mod RunFaults
pub mod Works
