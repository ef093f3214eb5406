pub mod Field
pub mod Places
