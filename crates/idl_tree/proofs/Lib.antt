pub mod Classes
pub mod Deciding
pub mod Layers
pub mod Writing
