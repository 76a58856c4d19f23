pub mod Crossing
pub mod Standing
pub mod Tellings
