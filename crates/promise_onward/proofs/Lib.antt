pub mod Panels
pub mod Calls
pub mod Cuts
pub mod Repeats
pub mod Lives
pub mod Joined
pub mod Derangements
pub mod Unread
