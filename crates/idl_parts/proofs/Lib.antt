pub mod Loops
pub mod Orders
pub mod Parts
pub mod Taking
