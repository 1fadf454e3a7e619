pub mod Filling
pub mod Opening
