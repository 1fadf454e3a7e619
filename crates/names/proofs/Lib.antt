pub mod Plainness
pub mod Reading
pub mod Seeking
pub mod Showing
pub mod Trying
pub mod Unique
