pub mod OnState
pub mod Stays
pub mod Resumes
pub mod Only
