pub mod Streamer
pub mod Runs
pub mod Conduct
pub mod Uses
