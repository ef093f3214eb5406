pub mod Accepted
pub mod Joined
pub mod Carried
pub mod Only
pub mod Refusals
pub mod Contracts
