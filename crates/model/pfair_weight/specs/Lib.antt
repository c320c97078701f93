pub mod Cascaded
pub mod Laws
pub mod Name
pub mod Stepped
pub mod Window
pub mod WindowFacts
