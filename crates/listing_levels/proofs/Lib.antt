pub mod Blocks
pub mod Levels
pub mod Worked
pub mod Followed
