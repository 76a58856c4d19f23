pub mod Counted
pub mod Owed
pub mod Parts
pub mod Rows
pub mod Suits
