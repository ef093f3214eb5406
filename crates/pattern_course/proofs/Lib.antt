pub mod Lent
pub mod Origins
pub mod Ways
