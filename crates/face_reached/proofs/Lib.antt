-- The fields of states that calls leave fit their words; so the words that calls leave are those of the states that they leave.
pub mod InRange
pub mod Read
