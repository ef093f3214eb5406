pub mod Listed
pub mod Inverse
pub mod Written
pub mod Longest
pub mod Cases
pub mod Buffer
