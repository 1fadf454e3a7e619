pub mod Strings
pub mod Members
pub mod Examples
