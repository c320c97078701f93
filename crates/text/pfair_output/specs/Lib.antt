pub mod Lags
pub mod Replay
