pub mod Calls
pub mod Only
pub mod Accepted
pub mod Around
pub mod Contracts
