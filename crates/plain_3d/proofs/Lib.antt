pub mod BitsOnly
pub mod Rows
pub mod Bases
pub mod FourBits
