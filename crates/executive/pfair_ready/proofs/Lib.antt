mod CalendarLemmas
mod Common
pub mod Names
pub mod Taking
mod WaitingLemmas
