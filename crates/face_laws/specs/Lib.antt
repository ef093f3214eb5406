pub mod Values
pub mod Calls
