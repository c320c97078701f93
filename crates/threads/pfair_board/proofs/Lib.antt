mod Common
pub mod Working
