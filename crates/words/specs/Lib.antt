pub mod Told
pub mod Maybe
pub mod Meaning
pub mod Shape
pub mod Signs
pub mod Padded
pub mod Contract
