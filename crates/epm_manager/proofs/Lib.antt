pub mod EntryLemmas
pub mod Filters
pub mod Owed
pub mod Sound
pub mod Suits
pub mod TowerLemmas
pub mod Whole
