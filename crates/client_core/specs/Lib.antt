pub mod Answers
pub mod Calls
pub mod Hears
pub mod Histories
pub mod Octets
pub mod Parts
pub mod State
pub mod States
