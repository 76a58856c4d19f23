pub mod Places
pub mod Lining
pub mod Lines
pub mod Moving
pub mod Playing
pub mod Runs
pub mod Telling
