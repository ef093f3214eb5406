pub mod Between
pub mod Flags
pub mod Jacks
pub mod Turns
