pub mod Answers
pub mod Keys
pub mod Through
pub mod Ports
pub mod Contracts
