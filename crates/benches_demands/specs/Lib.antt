-- What calls on each bench's plan did; request 8 as one record; one answer to each call.
pub mod Calls
pub mod Over
pub mod Only
