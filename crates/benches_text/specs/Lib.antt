-- The counts of benches, read; what is printed.
pub mod Reading
pub mod Text
