pub mod Departures
pub mod Towers
pub mod Writing
