pub mod Cases
pub mod LineWords
pub mod Tells
pub mod Meets
