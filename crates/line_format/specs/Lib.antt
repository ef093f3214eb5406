pub mod Format
pub mod Reading
pub mod Calls
pub mod Campaign
