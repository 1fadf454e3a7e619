pub mod Objects
pub mod Examples
