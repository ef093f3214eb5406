pub mod Held
pub mod Marks
pub mod Rules
pub mod Within
