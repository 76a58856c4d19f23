pub mod Deeds
pub mod Entering
pub mod Running
