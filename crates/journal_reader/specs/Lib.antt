pub mod Fits
pub mod Lines
pub mod Lists
pub mod Parts
