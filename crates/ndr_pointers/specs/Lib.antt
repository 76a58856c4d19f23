pub mod Gives
pub mod Known
pub mod Meeting
pub mod Pointing
pub mod Shown
pub mod Views
