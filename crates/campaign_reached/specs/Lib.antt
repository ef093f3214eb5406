-- The calls on an accepted plan; what a call shows.
pub mod Turns
pub mod Shown
