pub mod Amiss
pub mod Asked
pub mod Causes
pub mod First
pub mod Flat
pub mod Fuel
pub mod Off
