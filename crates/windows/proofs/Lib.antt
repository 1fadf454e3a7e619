pub mod Holding
pub mod Sounding
pub mod Unique
