pub mod Names
pub mod Longest
pub mod Lines
pub mod Good
pub mod Whole
