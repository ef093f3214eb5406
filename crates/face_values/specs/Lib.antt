pub mod Answers
pub mod Lines
pub mod Only
