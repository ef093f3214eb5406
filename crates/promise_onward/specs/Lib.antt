pub mod Resume
pub mod Cuts
pub mod Lives
