pub mod Quoting
pub mod Escaping
pub mod Bounds
