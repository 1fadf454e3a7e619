pub mod Captures
pub mod Loop
pub mod Longest
