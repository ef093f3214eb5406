pub mod Places
pub mod Rehearsals
pub mod Answered
pub mod Ruled
