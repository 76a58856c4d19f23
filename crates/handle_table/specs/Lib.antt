pub mod Cells
pub mod Ended
pub mod Handles
pub mod Kept
pub mod Laws
pub mod Places
pub mod Uses
