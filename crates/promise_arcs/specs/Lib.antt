pub mod Circle
pub mod Gaps
pub mod Named
pub mod Finding
