pub mod Ends
pub mod Meeting
pub mod Parts
pub mod Sending
