pub mod Leasts
pub mod Mapped
pub mod Seen
pub mod Twins
