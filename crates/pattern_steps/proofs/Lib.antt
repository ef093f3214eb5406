pub mod Blocks
pub mod Stored
