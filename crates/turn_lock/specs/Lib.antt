pub mod Histories
pub mod Lent
pub mod Passes
pub mod Rule
pub mod Steps
