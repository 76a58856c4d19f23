pub mod Closing
pub mod Departures
pub mod Hands
pub mod Laws
pub mod Lines
pub mod Meaning
pub mod Playing
pub mod Reading
