pub mod Decoding
pub mod Fitting
