pub mod Smallness
pub mod Unique
