pub mod Deciding
pub mod Arms
