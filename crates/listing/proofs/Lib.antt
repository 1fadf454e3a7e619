pub mod Filling
pub mod Judging
pub mod Unique
