pub mod Constants
pub mod Faults
pub mod Fragments
pub mod Pdus
pub mod Reading
pub mod Writing
