pub mod Aligned
pub mod Nested
pub mod Ordered
pub mod Shown
pub mod Sound
pub mod Tables
pub mod Tails
