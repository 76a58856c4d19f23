pub mod Nesting
pub mod Through
