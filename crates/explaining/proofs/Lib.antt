pub mod Longest
pub mod Fitting
pub mod Steps
pub mod Cases
