pub mod Demand1
pub mod Demand2
pub mod Demand3
pub mod Files
pub mod Versions
pub mod Writer
pub mod Choices
pub mod Listings
