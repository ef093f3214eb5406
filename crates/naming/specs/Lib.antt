pub mod Text
pub mod Arcs
