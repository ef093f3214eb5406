pub mod Counts
pub mod Gaps
pub mod Longest
pub mod Whole
pub mod Contracts
