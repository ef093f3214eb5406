pub mod States
pub mod Rehearsals
pub mod Held
