pub mod Changing
pub mod Entering
pub mod Groups
pub mod Legal
pub mod Meaning
