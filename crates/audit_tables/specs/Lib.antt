pub mod Calls
pub mod Conns
pub mod Handles
pub mod Index
pub mod Kept
pub mod Keyed
pub mod Users
