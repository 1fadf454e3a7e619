pub mod Places
pub mod SearchLaws
