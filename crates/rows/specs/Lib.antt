pub mod Groups
pub mod Masks
