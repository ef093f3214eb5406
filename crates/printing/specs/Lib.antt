pub mod Rehearsals
pub mod Printing
pub mod Answers
pub mod Progress
