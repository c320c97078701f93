pub mod CommandFacts
mod Common
pub mod TableFacts
