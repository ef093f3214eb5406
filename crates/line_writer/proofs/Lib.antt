pub mod Spelling
pub mod Only
pub mod Contracts
