pub mod Steps
pub mod Taking
pub mod Contracts
