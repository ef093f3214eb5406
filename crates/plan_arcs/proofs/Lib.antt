pub mod Arcs
pub mod Loops
pub mod Found
