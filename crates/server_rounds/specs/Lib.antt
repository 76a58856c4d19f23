pub mod Desks
pub mod Endings
pub mod Passes
pub mod Rounds
pub mod Running
pub mod Served
pub mod Serving
