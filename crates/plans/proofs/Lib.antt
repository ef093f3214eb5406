pub mod Legs
pub mod Plans
pub mod Read
pub mod Turns
pub mod Longest
pub mod Only
pub mod Cases
pub mod Contracts
