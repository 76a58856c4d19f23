pub mod Answers
pub mod Copies
pub mod Counts
pub mod Finds
pub mod Openings
pub mod Retirings
pub mod Shards
