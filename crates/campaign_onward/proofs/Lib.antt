-- What each call tells and leaves, case by case; that one answer meets it; what the calls' own contracts say.
pub mod Locates
pub mod Resumes
pub mod Only
pub mod Contracts
