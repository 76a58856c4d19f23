pub mod Handles
pub mod Lines
pub mod Moves
pub mod Played
pub mod Rows
pub mod Worlds
