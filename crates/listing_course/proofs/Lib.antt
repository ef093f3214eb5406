pub mod Beside
pub mod Courses
pub mod InPlace
pub mod Inverse
pub mod Onward
pub mod Seeking
pub mod Worked
