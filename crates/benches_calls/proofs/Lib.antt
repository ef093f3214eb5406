-- That one answer meets each contract; what the contracts say.
pub mod Only
pub mod Contracts
