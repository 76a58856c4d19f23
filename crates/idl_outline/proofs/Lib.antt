pub mod Layered
pub mod Past
