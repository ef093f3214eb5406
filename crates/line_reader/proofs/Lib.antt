pub mod Reader
pub mod Only
pub mod Contracts
