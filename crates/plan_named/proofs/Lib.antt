-- What the call tells and leaves, case by case; that one answer meets it; what its own contract says.
pub mod Surveys
pub mod Only
pub mod Contracts
