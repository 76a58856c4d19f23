pub mod Interfaces
pub mod Managers
pub mod Played
pub mod Suited
