pub mod Ending
pub mod Going
pub mod Requesting
pub mod Scanning
