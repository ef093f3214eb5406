pub mod Ruled
pub mod Patterns
pub mod Plans
pub mod Keys
pub mod Asked
pub mod Contracts
