pub mod Usual
pub mod Stray
pub mod Pointer
