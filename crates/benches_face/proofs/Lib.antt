-- What the contracts say, and that one result meets each.
pub mod Contracts
pub mod Only
