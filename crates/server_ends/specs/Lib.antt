pub mod Endings
pub mod Finishes
pub mod Joins
pub mod Links
pub mod Owning
