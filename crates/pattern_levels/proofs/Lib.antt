pub mod Came
pub mod Taken
