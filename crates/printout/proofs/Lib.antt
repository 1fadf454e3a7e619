pub mod Paging
pub mod Unique
