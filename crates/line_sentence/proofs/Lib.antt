pub mod Parts
pub mod Lengths
pub mod Plain
pub mod Cases
pub mod Writing
pub mod Only
pub mod Contracts
