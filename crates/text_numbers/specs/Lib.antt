pub mod Decimal
pub mod Signed
pub mod Answers
