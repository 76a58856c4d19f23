pub mod Asks
pub mod Found
pub mod Texts
pub mod Usage
