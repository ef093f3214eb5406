-- Request 8 is proved; and that one answer meets each contract.
pub mod Over
pub mod Only
