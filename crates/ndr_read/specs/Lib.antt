pub mod Alone
pub mod Noted
pub mod Pieces
pub mod Readings
pub mod Slots
pub mod Views
