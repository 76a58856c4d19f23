pub mod Backed
pub mod Offered
