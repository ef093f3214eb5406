pub mod Course
pub mod InPlace
pub mod Onward
pub mod Seeking
