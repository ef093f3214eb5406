pub mod Cases
pub mod Cuts
pub mod Keys
pub mod Only
pub mod Contracts
