pub mod Along
pub mod Reads
