pub mod BitRules
pub mod Judging
pub mod Reading
pub mod Unique
