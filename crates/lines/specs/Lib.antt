pub mod Lines
pub mod Hexadecimal
pub mod Writing
