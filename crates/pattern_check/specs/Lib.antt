pub mod Faults
pub mod Jacks
pub mod Calls
pub mod Answers
