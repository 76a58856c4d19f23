pub mod Ranges
pub mod Same
pub mod Views
