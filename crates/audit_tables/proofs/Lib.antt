pub mod Held
pub mod Indexed
pub mod Keyed
pub mod Rows
pub mod Started
pub mod Using
