pub mod Differ
pub mod Filling
pub mod Held
pub mod Home
pub mod Stores
