pub mod Fronts
pub mod Heads
pub mod Links
pub mod OneRow
pub mod Pieces
pub mod Steps
pub mod Sums
