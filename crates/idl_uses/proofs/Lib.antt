pub mod Added
pub mod Offered
