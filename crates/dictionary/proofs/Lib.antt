pub mod Only
pub mod Contracts
