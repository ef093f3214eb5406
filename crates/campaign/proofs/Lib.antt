pub mod Moments
pub mod Asked
pub mod Written
pub mod Tells
pub mod Home
pub mod Only
pub mod Contracts
