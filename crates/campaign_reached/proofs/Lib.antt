-- The first state; what a call leaves; what it shows; the states that calls leave; the room that a line takes; any fit state and its own plan.
pub mod Kept
pub mod Begun
pub mod Shown
pub mod Reached
pub mod Room
pub mod Own
