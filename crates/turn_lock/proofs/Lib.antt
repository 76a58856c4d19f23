pub mod AddingLemmas
pub mod HistoryLemmas
pub mod ListedLemmas
pub mod PassLemmas
pub mod TurnLemmas
pub mod ViewLemmas
