pub mod Answers
pub mod Asking
pub mod Asks
pub mod States
