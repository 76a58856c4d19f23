pub mod Answering
pub mod Asked
pub mod Flags
pub mod Heard
pub mod Outs
pub mod Putting
pub mod Writable
