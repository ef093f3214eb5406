-- Where a campaign is, what going on tells and leaves; what an answer of each call says.
pub mod Calls
pub mod Answers
