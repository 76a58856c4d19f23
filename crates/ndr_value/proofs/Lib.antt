pub mod Judges
pub mod Mirror
pub mod Names
