pub mod Doing
pub mod Ends
pub mod Fields
pub mod Steps
pub mod Uncut
