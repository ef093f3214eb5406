pub mod Parts
pub mod Within
pub mod Runs
pub mod StateWords
pub mod Back
pub mod RehearsalWords
