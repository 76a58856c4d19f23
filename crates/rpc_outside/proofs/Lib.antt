pub mod DoorLemmas
pub mod LinkLemmas
pub mod PlayLemmas
pub mod ScriptLemmas
