pub mod Bare
pub mod Heaps
pub mod Meeting
pub mod Octets
pub mod Rows
pub mod Values
