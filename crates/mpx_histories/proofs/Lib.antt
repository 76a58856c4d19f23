pub mod Coming
pub mod Tracing
