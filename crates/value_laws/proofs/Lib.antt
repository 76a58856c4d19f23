pub mod Ends
pub mod Fronted
pub mod Leaves
pub mod Places
pub mod Unique
