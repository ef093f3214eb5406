pub mod Down
pub mod Lifts
pub mod Rows
