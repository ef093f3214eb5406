pub mod Entries
pub mod Written
pub mod Names
