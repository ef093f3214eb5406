pub mod Words
pub mod Only
pub mod Contracts
