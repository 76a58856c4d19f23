pub mod Answers
pub mod Arguments
pub mod Calls
pub mod Handles
pub mod Messages
pub mod Responses
pub mod Served
pub mod ServedCalls
