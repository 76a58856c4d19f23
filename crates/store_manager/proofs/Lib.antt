pub mod Asked
pub mod Named
pub mod Owed
pub mod Whole
