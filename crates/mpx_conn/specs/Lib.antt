pub mod Doing
pub mod Fields
pub mod Steps
