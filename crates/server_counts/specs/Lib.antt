pub mod Counting
pub mod Packets
pub mod Pieces
pub mod Stats
