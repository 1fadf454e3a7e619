pub mod Starts
pub mod Stores
pub mod Kept
pub mod Registers
