pub mod Entries
pub mod Examples
pub mod Names
pub mod Reading
