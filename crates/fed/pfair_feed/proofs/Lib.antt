mod Common
pub mod Going
pub mod Lines
mod RoundTrip
mod RunsAlike
mod ScriptRows
mod Writing
