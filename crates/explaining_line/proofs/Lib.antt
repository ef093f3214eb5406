pub mod Explains
pub mod Contracts
