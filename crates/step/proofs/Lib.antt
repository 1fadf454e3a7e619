pub mod Structural
pub mod Ways
