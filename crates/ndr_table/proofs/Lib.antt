pub mod Aligns
pub mod Sizes
