pub mod Bounded
pub mod Items
pub mod Parts
pub mod Sames
pub mod Steps
