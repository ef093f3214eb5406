-- Laws of the counts that are read; of the lines that are printed.
pub mod Three
pub mod Reading
pub mod Lines
