pub mod FormatWords
pub mod BufferRanges
pub mod Buffers
pub mod IndexBuffers
pub mod Elements
