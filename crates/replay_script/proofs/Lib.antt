pub mod Behind
pub mod Counting
pub mod Departures
pub mod Fronts
pub mod Heads
pub mod Writable
