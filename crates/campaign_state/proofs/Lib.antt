pub mod Places
pub mod Stands
pub mod Counts
pub mod Fit
