pub mod Putting
pub mod Pieces
pub mod Unique
