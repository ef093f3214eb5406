pub mod Rows
pub mod Free
pub mod Stand
