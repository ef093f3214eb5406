pub mod Lines
pub mod Cutting
pub mod Back
pub mod Bad
pub mod Places
pub mod Read
pub mod Patterns
pub mod Contracts
