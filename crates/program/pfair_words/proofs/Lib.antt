mod Common
pub mod LineFacts
pub mod PlainFacts
