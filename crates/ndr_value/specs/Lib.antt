pub mod Fits
pub mod Forms
pub mod Judged
pub mod Typed
pub mod Values
