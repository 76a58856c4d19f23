pub mod Files
pub mod Steps
pub mod Table
pub mod Wholes
