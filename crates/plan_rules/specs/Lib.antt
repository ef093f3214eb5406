pub mod Planned
pub mod Places
pub mod Rules
