pub mod Again
pub mod Once
pub mod Same
pub mod Swap
