pub mod Walks
pub mod Differ
pub mod Orders
