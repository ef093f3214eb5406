pub mod Lines
pub mod OneLine
pub mod Numbers
