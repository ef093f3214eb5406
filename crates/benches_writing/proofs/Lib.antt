-- How long the answers are; the lines of all benches, one behind the other.
pub mod Short
pub mod Shares
