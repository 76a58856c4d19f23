pub mod Holding
pub mod Kept
pub mod Names
pub mod Outline
pub mod Parts
pub mod Specs
pub mod Types
pub mod Within
