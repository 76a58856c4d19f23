pub mod Told
pub mod Acting
pub mod Binding
pub mod Steps
